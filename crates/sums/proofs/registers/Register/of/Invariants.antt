use Rattle.std.proofs.Common.{◌≡◌, reverse, take}
use Rattle.sums.specs.Sums.{sum_of}
use Rattle.sums.proofs.registers.Register.of.Given as goal

abbrev pub invariant-loop-digest : goal.invariant-loop-digest
invariant-loop-digest l = l.register.sum ≡ sum_of (reverse (take l.digest-index l.digests))
