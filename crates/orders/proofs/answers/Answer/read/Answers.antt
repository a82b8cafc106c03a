use Rattle.std.proofs.Common.{◌≡◌, ◌≤◌, length, get_or, sym, refl, ◌∙◌, arith, rules}
use Rattle.wire.specs.declared.refusals.Refusal.TheVariants.{Malformed}
use Rattle.wire.specs.declared.kinds.AnswerKind.TheVariants.{Done, Signed, Counter, Closed, Opened, Now, Refused, Accepted}
use Rattle.orders.specs.Answers.{answer_form, answer_forms, refused_parts, shown_answer}
use Rattle.orders.specs.Things.{whole_thing}
use Rattle.orders.proofs.AnswerWords.{refused_read}
use Rattle.orders.proofs.ThingWords.{inside}
use Rattle.orders.proofs.answers.Answer.read.Goals as goal
use Rattle.wire.proofs.Words.{known, reads, unknown_kind}

pub returns-in_err-first : goal.returns-in_err-first
returns-in_err-first c = reads shown_answer Malformed answer_forms refl _ _ c.type_inv.word (search rules)

pub returns-in_err-try_from : goal.returns-in_err-try_from
returns-in_err-try_from c =
    let none = c.in_err-try_from.ensures.1 in
    let first : get_or c.args.word.now 0 0 ≡ c.in_ok-first.field-0.now = search rules in
    let unknown = unknown_kind Malformed answer_forms c.args.word.now (λ e. none Done (e ∙ first), (λ e. none Signed (e ∙ first), (λ e. none Counter (e ∙ first), (λ e. none Closed (e ∙ first), (λ e. none Opened (e ∙ first), (λ e. none Now (e ∙ first), (λ e. none Refused (e ∙ first), (λ e. none Accepted (e ∙ first), tt)))))))) in
    reads shown_answer Malformed answer_forms refl _ _ c.type_inv.word (search (rules, unknown))

pub returns-in_err-read-in-Closed : goal.returns-in_err-read-in-Closed
returns-in_err-read-in-Closed c =
    let first : get_or c.args.word.now 0 0 ≡ 19 = search rules in
    let long : 1 ≤ length c.args.word.now = search rules in
    let inner = inside 19 c.args.word.now _ long c.in_err-read-in-Closed.ensures.reads.answers ∙ sym (known Malformed answer_forms 19 (answer_form 19 whole_thing) c.args.word.now first refl) in
    reads shown_answer Malformed answer_forms refl _ _ c.type_inv.word (search (rules, inner))

pub returns-in_err-counted_at-in-Opened : goal.returns-in_err-counted_at-in-Opened
returns-in_err-counted_at-in-Opened c = reads shown_answer Malformed answer_forms refl _ _ c.type_inv.word (search rules)

pub returns-in_err-try_from-in-Refused : goal.returns-in_err-try_from-in-Refused
returns-in_err-try_from-in-Refused c = reads shown_answer Malformed answer_forms refl _ _ c.type_inv.word (search rules)

pub returns-in-Done : goal.returns-in-Done
returns-in-Done c = reads shown_answer Malformed answer_forms refl _ _ c.type_inv.word (search rules)

pub returns-in-Signed : goal.returns-in-Signed
returns-in-Signed c = reads shown_answer Malformed answer_forms refl _ _ c.type_inv.word (search rules)

pub returns-in-Counter : goal.returns-in-Counter
returns-in-Counter c = reads shown_answer Malformed answer_forms refl _ _ c.type_inv.word (search rules)

pub returns-in_ok-read-in-Closed : goal.returns-in_ok-read-in-Closed
returns-in_ok-read-in-Closed c =
    let first : get_or c.args.word.now 0 0 ≡ 19 = search rules in
    let long : 1 ≤ length c.args.word.now = search rules in
    reads shown_answer Malformed answer_forms refl _ _ c.type_inv.word
    (inside 19 c.args.word.now _ long c.in_ok-read-in-Closed.ensures.reads.answers
    ∙ sym (known Malformed answer_forms 19 (answer_form 19 whole_thing) c.args.word.now first refl))

pub returns-in_ok-counted_at-in-Opened : goal.returns-in_ok-counted_at-in-Opened
returns-in_ok-counted_at-in-Opened c = reads shown_answer Malformed answer_forms refl _ _ c.type_inv.word (search rules)

pub returns-in-Now : goal.returns-in-Now
returns-in-Now c = reads shown_answer Malformed answer_forms refl _ _ c.type_inv.word (search rules)

pub returns-in_ok-try_from-in-Refused : goal.returns-in_ok-try_from-in-Refused
returns-in_ok-try_from-in-Refused c =
    let first : get_or c.args.word.now 0 0 ≡ 32 = search rules in
    reads shown_answer Malformed answer_forms refl _ _ c.type_inv.word
    (refused_read c.args.word.now _ (omega arith) c.in_ok-try_from-in-Refused.ensures.0
    ∙ sym (known Malformed answer_forms 32 (answer_form 32 refused_parts) c.args.word.now first refl))

pub returns-in-Accepted : goal.returns-in-Accepted
returns-in-Accepted c = reads shown_answer Malformed answer_forms refl _ _ c.type_inv.word (search rules)

pub returns-in_default : goal.returns-in_default
returns-in_default c = reads shown_answer Malformed answer_forms refl _ _ c.type_inv.word (search rules)
