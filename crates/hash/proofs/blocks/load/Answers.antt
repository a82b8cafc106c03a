use Rattle.std.proofs.Common.{◌∙◌, [], get_or, rules}
use Rattle.std.specs.Int.{from_be_bytes, w32}
use Rattle.std.specs.Simd.{first_chunks}
use Rattle.hash.proofs.Arrays.{made}
use Rattle.hash.proofs.Schedules.{loaded, word_is}
use Rattle.hash.proofs.blocks.load.Goals as goal

pub returns : goal.returns
returns c =
    let m = c.args.block.now in
    loaded m c.from_fn.result c.from_fn.ensures.items.long
    (λ t h. made _ _ (λ i. from_be_bytes w32 (get_or (first_chunks 4 16 m) i [])) c.from_fn.result 16 (λ i l y q k. search rules) c.from_fn.ensures.items t 0 h ∙ word_is m t h)
