use Rattle.hash.specs.Hmac.{inner_pad, outer_pad}
use Rattle.hash.specs.Keys.{prepared}
use Rattle.hash.specs.Sha256.{initial}
use Rattle.hash.proofs.keys.Key.new.Goals as goal

pub returns : goal.returns
unfolding prepared inner_pad outer_pad initial
returns c = cc
