use Rattle.std.proofs.Common.{length}
use Rattle.hash.proofs.Similar.{Agree}
use Rattle.hash.proofs.comparisons.equal.Given as goal

abbrev pub invariant-loop-x : goal.invariant-loop-x
invariant-loop-x l = Agree l.a l.b (length l.yielded) l.differ
