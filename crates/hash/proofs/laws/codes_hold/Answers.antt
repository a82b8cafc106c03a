use Rattle.std.proofs.Common.{refl}
use Rattle.hash.specs.Blocks.{filled}
use Rattle.hash.specs.Hmac.{hmac, inner_pad, outer_pad}
use Rattle.hash.specs.Sha256.{absorbed, compressed, constants, initial, rounds, schedule, sha256}
use Rattle.hash.proofs.laws.codes_hold.Goals as goal

pub returns : goal.returns
unfolding hmac inner_pad outer_pad filled sha256 absorbed compressed rounds schedule constants initial
returns c = record { one = refl; two = refl; three = refl; four = refl; five = refl; six = refl }
