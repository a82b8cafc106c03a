use Rattle.std.proofs.Common.{◌≡◌, ◌≤◌, length, get_or, sym, refl, ◌∙◌, rules}
use Rattle.wire.specs.declared.refusals.Refusal.TheVariants.{Malformed}
use Rattle.wire.specs.declared.kinds.CommandKind.TheVariants.{Put, Sign, Count, Close, Open, Read, SwitchedOn}
use Rattle.orders.specs.Commands.{command_form, command_forms, shown_command}
use Rattle.orders.specs.Things.{whole_thing}
use Rattle.orders.proofs.ThingWords.{inside}
use Rattle.orders.proofs.commands.Command.read.Goals as goal
use Rattle.wire.proofs.Words.{known, reads, unknown_kind}

pub returns-in_err-first-clause-reads : goal.returns-in_err-first-clause-reads
returns-in_err-first-clause-reads c = reads shown_command Malformed command_forms refl _ _ c.type_inv.word (search rules)

pub returns-in_err-try_from-clause-reads : goal.returns-in_err-try_from-clause-reads
returns-in_err-try_from-clause-reads c =
    let none = c.in_err-try_from.ensures.1 in
    let first : get_or c.args.word.now 0 0 ≡ c.in_ok-first.field-0.now = search rules in
    let unknown = unknown_kind Malformed command_forms c.args.word.now (λ e. none Put (e ∙ first), (λ e. none Sign (e ∙ first), (λ e. none Count (e ∙ first), (λ e. none Close (e ∙ first), (λ e. none Open (e ∙ first), (λ e. none Read (e ∙ first), (λ e. none SwitchedOn (e ∙ first), tt))))))) in
    reads shown_command Malformed command_forms refl _ _ c.type_inv.word (search (rules, unknown))

pub returns-in_err-bytes-in-Close-clause-reads : goal.returns-in_err-bytes-in-Close-clause-reads
returns-in_err-bytes-in-Close-clause-reads c = reads shown_command Malformed command_forms refl _ _ c.type_inv.word (search rules)

pub returns-in_err-read-in-Open-clause-reads : goal.returns-in_err-read-in-Open-clause-reads
returns-in_err-read-in-Open-clause-reads c =
    let first : get_or c.args.word.now 0 0 ≡ 5 = search rules in
    let long : 1 ≤ length c.args.word.now = search rules in
    let inner = inside 5 c.args.word.now _ long c.in_err-read-in-Open.ensures.reads.answers ∙ sym (known Malformed command_forms 5 (command_form 5 whole_thing) c.args.word.now first refl) in
    reads shown_command Malformed command_forms refl _ _ c.type_inv.word (search (rules, inner))

pub returns-in-Put-clause-reads : goal.returns-in-Put-clause-reads
returns-in-Put-clause-reads c = reads shown_command Malformed command_forms refl _ _ c.type_inv.word (search rules)

pub returns-in-Sign-clause-reads : goal.returns-in-Sign-clause-reads
returns-in-Sign-clause-reads c = reads shown_command Malformed command_forms refl _ _ c.type_inv.word (search rules)

pub returns-in-Count-clause-reads : goal.returns-in-Count-clause-reads
returns-in-Count-clause-reads c = reads shown_command Malformed command_forms refl _ _ c.type_inv.word (search rules)

pub returns-in_ok-bytes-in-Close-clause-reads : goal.returns-in_ok-bytes-in-Close-clause-reads
returns-in_ok-bytes-in-Close-clause-reads c = reads shown_command Malformed command_forms refl _ _ c.type_inv.word (search rules)

pub returns-in_ok-read-in-Open-clause-reads : goal.returns-in_ok-read-in-Open-clause-reads
returns-in_ok-read-in-Open-clause-reads c =
    let first : get_or c.args.word.now 0 0 ≡ 5 = search rules in
    let long : 1 ≤ length c.args.word.now = search rules in
    reads shown_command Malformed command_forms refl _ _ c.type_inv.word
    (inside 5 c.args.word.now _ long c.in_ok-read-in-Open.ensures.reads.answers
    ∙ sym (known Malformed command_forms 5 (command_form 5 whole_thing) c.args.word.now first refl))

pub returns-in-Read-clause-reads : goal.returns-in-Read-clause-reads
returns-in-Read-clause-reads c = reads shown_command Malformed command_forms refl _ _ c.type_inv.word (search rules)

pub returns-in-SwitchedOn-clause-reads : goal.returns-in-SwitchedOn-clause-reads
returns-in-SwitchedOn-clause-reads c = reads shown_command Malformed command_forms refl _ _ c.type_inv.word (search rules)

pub returns-in_default-clause-reads : goal.returns-in_default-clause-reads
returns-in_default-clause-reads c = reads shown_command Malformed command_forms refl _ _ c.type_inv.word (search rules)
