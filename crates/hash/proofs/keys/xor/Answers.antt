use Rattle.std.proofs.Common.{◌≡◌, length, get_or, ap, ◌∙◌, arith, length-append, length-drop, length-take}
use lib.Bits.{bit_xor}
use lib.ListN.{length-map}
use Rattle.std.proofs.lemmas.List.Edits.{map_over_more}
use Rattle.std.proofs.lemmas.List.{get_or_default}
use Rattle.hash.proofs.keys.xor.Goals as goal

pub loop-byte-preserved : goal.loop-byte-preserved
loop-byte-preserved c =
    let i = c.loop-byte.byte-index in
    let ys = c.loop-byte.byte-items in
    let l : length ys ≡ length c.args.block =
    ap length c.loop-byte.invariant ∙ simp (length-append, length-map, length-take, length-drop) (omega arith)
    in
    map_over_more (λ b. bit_xor b c.args.pad) c.args.block ys i (get_or ys i 0) (omega arith) c.loop-byte.invariant
    (get_or_default ys i 0 (get_or ys i 0) (omega arith))
