use Rattle.std.proofs.Common.{Some, None, ap, ◌∙◌}
use Rattle.device.specs.Rows.{pushed}
use Rattle.scenes.proofs.Folds.{rows_next, rows_all}
use Rattle.scenes.proofs.steps.makes.row.Goals as goal

pub returns-in_err-row : goal.returns-in_err-row
returns-in_err-row c = rw c.from_residual.ensures (rows_next c.loop-program.row _ c.loop-program.program-index _ None _ c.loop-program-test.true (c.in_err-row.ensures ∙ ap (pushed c.loop-program.row) c.digest.ensures) c.loop-program.invariant)

pub loop-program-preserved : goal.loop-program-preserved
loop-program-preserved c = rows_next c.loop-program.row _ c.loop-program.program-index _ (Some c.in_ok-row.row) _ c.loop-program-test.true (c.in_ok-row.ensures ∙ ap (pushed c.loop-program.row) c.digest.ensures) c.loop-program.invariant

pub returns : goal.returns
returns c = rows_all c.loop-program.row _ c.loop-program.program-index _ c.loop-program-test.false c.loop-program.invariant
