use Rattle.std.proofs.Common.{◌≡◌, get_or, sym, refl, ◌∙◌, arith, rules}
use Rattle.wire.specs.declared.refusals.Refusal.TheVariants.{Malformed}
use Rattle.orders.specs.Things.{thing_form, thing_forms, shown_thing}
use Rattle.orders.proofs.things.Thing.read.Goals as goal
use Rattle.orders.proofs.ThingWords.{thing_read}
use Rattle.wire.proofs.Bigs.{number_is, bytes_are}
use Rattle.wire.proofs.Words.{known, reads}

pub returns-then-ne-clause-reads : goal.returns-then-ne-clause-reads
returns-then-ne-clause-reads c = reads shown_thing Malformed thing_forms refl _ _ c.type_inv.word (search rules)

pub returns-in_err-turned-clause-reads : goal.returns-in_err-turned-clause-reads
returns-in_err-turned-clause-reads c = reads shown_thing Malformed thing_forms refl _ _ c.type_inv.word (search rules)

pub returns-clause-reads : goal.returns-clause-reads
returns-clause-reads c =
    let w = c.args.word.now in
    let t = c.in_ok-turned.ensures in
    let first : get_or w 0 0 ≡ 2 = search rules in
    reads shown_thing Malformed thing_forms refl _ _ c.type_inv.word
    (thing_read w _ _ _ c.in_ok-turned.turned.now _ t (number_is 1 8 w _ (omega (arith, t.long)) c.number_at.ensures) (bytes_are 9 w _ (omega (arith, t.long)) c.bytes_at.ensures) (number_is 41 8 w _ (omega (arith, t.long)) c.number_at-2.ensures) c.split_at.ensures.back
    ∙ sym (known Malformed thing_forms 2 thing_form w first refl))
