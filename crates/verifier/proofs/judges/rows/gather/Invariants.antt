use Rattle.std.proofs.Common.{◌≡◌, drop, Some}
use Rattle.verifier.specs.Rows.{filled, gathered}
use Rattle.verifier.proofs.judges.rows.gather.Given as goal

abbrev pub invariant-loop-digest : goal.invariant-loop-digest
invariant-loop-digest l = filled (Some l.row) (drop l.digest-index l.digests) ≡ gathered l.digests
