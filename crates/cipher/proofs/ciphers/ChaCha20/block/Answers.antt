use Rattle.std.proofs.Common.{map-id}
use Rattle.cipher.specs.Blocks.{block}
use Rattle.cipher.proofs.ciphers.ChaCha20.block.Goals as goal

pub returns : goal.returns
unfolding block
returns c =
    let words = c.mixed.ensures 0 in
    let same_out = map-id c.mixed.result in
    let same_in = map-id c.state.result in
    cc
