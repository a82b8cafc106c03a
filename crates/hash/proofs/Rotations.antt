-- The library's rotation of a word is the standard's.
use Rattle.std.proofs.Common.{◌≡◌, ℕ, ◌-◌, ◌%◌, arith}
use Rattle.std.specs.Int.{rotate_right, w32}
use Rattle.hash.specs.Words.{IsRotation, rotr}

pub rotated : (n x : ℕ) → IsRotation n → rotate_right w32 x n ≡ rotr n x
rotated n x h =
    let a : n % 32 ≡ n = omega arith in
    let b : (32 - n) % 32 ≡ 32 - n = omega arith in
    rw (a, b)
