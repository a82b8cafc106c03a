use Rattle.std.proofs.Common.{Ok, Err}
use Rattle.std.proofs.lemmas.Result.{err_from_is_err_and}
use Rattle.script.specs.declared.lines.Part.TheVariants as part
use Rattle.script.proofs.Fills.{why_is, next_none, next_some, filled_next, filled_out, filled_all}
use Rattle.script.proofs.lines.places.Places.fill.Goals as goal

pub returns-in_err-word : goal.returns-in_err-word
returns-in_err-word c =
    let p = err_from_is_err_and c.from_residual.result c.from_residual.ensures.1 in
    let none = c.in_err-word.ensures.ok_part in
    let out = filled_out c.loop-part.places _ c.loop-part.part-index part.Name _ _ c.loop-part-test.true (next_none c.loop-part.words c.next.new.self c.next.result none c.next.ensures.steps) c.loop-part.invariant in
    rw (p.1, p.2, why_is c.next.result c.in_err-word.field-0.0 none c.in_err-word.ensures.value) out

pub returns-in_err-places : goal.returns-in_err-places
returns-in_err-places c =
    let p = err_from_is_err_and c.from_residual-in_err-places.result c.from_residual-in_err-places.ensures.1 in
    rw (p.1, p.2) (filled_next c.loop-part.places _ c.loop-part.part-index _ c.in_ok-word.word.now _ _ (Err c.in_err-places.field-0.0) _ c.loop-part-test.true (next_some c.loop-part.words c.next.new.self c.next.result c.in_ok-word.word c.in_ok-word.ensures.ok_part c.next.ensures.steps) c.in_err-places.ensures c.loop-part.invariant)

pub loop-part-preserved : goal.loop-part-preserved
loop-part-preserved c = filled_next c.loop-part.places _ c.loop-part.part-index _ c.in_ok-word.word.now _ _ (Ok c.in_ok-places.places) _ c.loop-part-test.true (next_some c.loop-part.words c.next.new.self c.next.result c.in_ok-word.word c.in_ok-word.ensures.ok_part c.next.ensures.steps) c.in_ok-places.ensures c.loop-part.invariant

pub returns : goal.returns
returns c = filled_all c.loop-part.places _ c.loop-part.part-index _ _ c.loop-part-test.false c.loop-part.invariant
