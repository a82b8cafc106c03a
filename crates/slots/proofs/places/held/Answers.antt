use Rattle.std.proofs.Common.{Some, sym, ◌∙◌, arith}
use Rattle.slots.proofs.Held.{fits_by, held_is, numbers_are}
use Rattle.slots.proofs.places.held.Goals as goal

pub returns-then-not-equal : goal.returns-then-not-equal
returns-then-not-equal c =
    let at = c.split_at.ensures in
    sym (held_is c.args.place.now _ (fits_by _ _ _ _ _ (omega arith) at.front at.back c.sha256.ensures c.equal.ensures ∙ c.if-not-equal.true))

pub returns : goal.returns
returns c =
    let at = c.split_at.ensures in
    let numbers = numbers_are _ _ _ at.front at.front_len c.as_chunks.ensures.front in
    (λ i. Some (record { counter = (c.from_be_bytes.ensures ∙ numbers.0) i; number = (c.from_be_bytes-2.ensures ∙ numbers.1) i }))
    ∙ sym (held_is c.args.place.now _ (fits_by _ _ _ _ _ (omega arith) at.front at.back c.sha256.ensures c.equal.ensures ∙ c.if-not-equal.false))
