use Rattle.std.proofs.Common.{◌∙◌}
use lib.Bits.{bit_xor}
use Rattle.hash.proofs.Rotations.{rotated}
use Rattle.hash.proofs.words.big_sigma.Goals as goal

pub returns : goal.returns
returns g c =
    let a = c.rotate_right.ensures ∙ rotated g.row.A c.args.x c.requires.0 in
    let b = c.rotate_right-2.ensures ∙ rotated g.row.B c.args.x c.requires.1 in
    let d = c.rotate_right-3.ensures ∙ rotated g.row.C c.args.x c.requires.2 in
    λ i. bit_xor (bit_xor (a i) (b i)) (d i)
