use Rattle.std.proofs.Common.{arith}
use Rattle.device.proofs.Rows.{row_length}
use Rattle.verifier.proofs.judges.rows.flag.Goals as goal
use Rattle.verifier.specs.Searches.{some, is_digest}
use Rattle.verifier.proofs.Rows.{flag_step}

pub loop-i-preserved : goal.loop-i-preserved
loop-i-preserved c = flag_step (λ d. some (is_digest d) c.args.good.now) _ c.loop-i.i _ _ _ _ (omega (arith, row_length c.args.row, c.args.row.fits)) c.as_slice-digest-items.ensures c.loop-i-test.true c.loop-i.invariant c.has_digest.ensures
