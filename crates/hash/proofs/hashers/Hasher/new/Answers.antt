use Rattle.std.proofs.Common.{refl}
use Rattle.hash.specs.Blocks.{filled}
use Rattle.hash.specs.Hashers.{after}
use Rattle.hash.specs.Sha256.{absorbed, initial}
use Rattle.hash.proofs.hashers.Hasher.new.Goals as goal

pub returns : goal.returns
unfolding after filled absorbed initial
returns c = refl
