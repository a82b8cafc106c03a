use Rattle.std.proofs.Common.{◌≡◌}
use Rattle.hash.specs.Hashers.{after}
use Rattle.vectors.specs.Repeats.{repeated}
use Rattle.vectors.proofs.digests.digest.Given as goal

abbrev pub invariant-loop : goal.invariant-loop
invariant-loop l = l.hasher ≡ after (repeated l.part l.counter)
