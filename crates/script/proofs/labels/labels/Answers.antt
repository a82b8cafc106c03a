use Rattle.std.proofs.Common.{◌+◌, drop, Ok, Err, vec_items, Vec, ap, ◌∙◌}
use Rattle.std.specs.declared.alloc.Global.{Global}
use Rattle.std.proofs.lemmas.Result.{err_from_is_err_and}
use Rattle.script.specs.declared.labels.Label.{Label}
use Rattle.script.specs.Labels.{labels_of}
use Rattle.script.proofs.Fills.{labels_next, labels_all, err_met}
use Rattle.script.proofs.labels.labels.Goals as goal

pub returns-in_err-parse : goal.returns-in_err-parse
returns-in_err-parse c =
    let p = err_from_is_err_and c.from_residual.result c.from_residual.ensures.1 in
    rw (p.1, p.2) (err_met (Vec Label Global) c.in_err-parse.field-0.0 _ (labels_next (vec_items c.loop-word.labels) _ c.loop-word.word-index _ (Err c.in_err-parse.field-0.0) _ c.loop-word-test.true c.in_err-parse.ensures.value c.loop-word.invariant))

pub loop-word-preserved : goal.loop-word-preserved
loop-word-preserved c = ap (λ ls. labels_of ls (drop (c.loop-word.word-index + 1) c.args.words.now)) c.in_ok-push.ensures.items ∙ labels_next (vec_items c.loop-word.labels) _ c.loop-word.word-index _ (Ok c.in_ok-parse.field-0) _ c.loop-word-test.true c.in_ok-parse.ensures.value c.loop-word.invariant

pub returns : goal.returns
returns c = labels_all (vec_items c.loop-word.labels) _ c.loop-word.word-index _ c.loop-word-test.false c.loop-word.invariant
