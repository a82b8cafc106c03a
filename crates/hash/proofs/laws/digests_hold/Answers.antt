use Rattle.std.proofs.Common.{refl}
use Rattle.hash.specs.Sha256.{absorbed, compressed, constants, initial, rounds, schedule, sha256}
use Rattle.hash.proofs.laws.digests_hold.Goals as goal

pub returns : goal.returns
unfolding sha256 absorbed compressed rounds schedule constants initial
returns c = record { one = refl; two = refl; six = refl; eight = refl }
