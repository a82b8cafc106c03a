use Rattle.std.proofs.Common.{ap}
use Rattle.hash.specs.Hmac.{inner_pad}
use Rattle.hash.specs.Keys.{prepared}
use Rattle.hash.proofs.Sizes.{length_inner}
use Rattle.hash.proofs.keys.Key.begin.Goals as goal

pub returns : goal.returns
unfolding prepared
returns c = λ k e. c.after_block.ensures (inner_pad k) (length_inner k) (ap (λ s. s.inner) e)
