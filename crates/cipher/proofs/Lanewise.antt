-- What is done to vectors is done to each lane; past the last lane there are zeros, which stay zeros.
use Rattle.std.proofs.Common.{◌≡◌, ℕ, zero, suc, ◌-◌, ◌*◌, ◌/◌, ◌%◌, ◌^◌, List, [], ◌∷◌, length, get_or, replicate, sym, refl, ◌∙◌, zero-mul, arith}
use native.Mathlib.Nat.{zero-div}
use lib.Bits.{bit_or}
use lib.Lanes.{zip2}
use lib.LanesLaws.{length-zip2}
use Rattle.cipher.specs.Rounds.{rotl}

module _ (f : ℕ → ℕ → ℕ) where
  pub lane_zip2 : f 0 0 ≡ 0 → (xs ys : List ℕ) (k : ℕ) → length xs ≡ length ys → get_or (zip2 f xs ys) k 0 ≡ f (get_or xs k 0) (get_or ys k 0)
  lane_zip2 z [] [] k e = sym z
  lane_zip2 z [] (y ∷ ys) k e = absurd (omega arith)
  lane_zip2 z (x ∷ xs) [] k e = absurd (omega arith)
  lane_zip2 z (x ∷ xs) (y ∷ ys) zero e = refl
  lane_zip2 z (x ∷ xs) (y ∷ ys) (suc k) e = lane_zip2 z xs ys k (omega arith)

  -- the second vector has y in every lane
  pub lane_splat : (n y : ℕ) → f 0 y ≡ 0 → (xs : List ℕ) (k : ℕ) → length xs ≡ n → get_or (zip2 f xs (replicate n y)) k 0 ≡ f (get_or xs k 0) y
  lane_splat n y z [] k e = sym z
  lane_splat zero y z (x ∷ xs) k e = absurd (omega arith)
  lane_splat (suc n) y z (x ∷ xs) zero e = refl
  lane_splat (suc n) y z (x ∷ xs) (suc k) e = lane_splat n y z xs k (omega arith)

abbrev shl : ℕ → ℕ → ℕ
shl x n = x * 2 ^ n % 2 ^ 32

abbrev shr : ℕ → ℕ → ℕ
shr x n = x / 2 ^ n

pub lane_rotl : (n : ℕ) (xs : List ℕ) (k : ℕ) → length xs ≡ 4 → get_or (zip2 bit_or (zip2 shl xs (replicate 4 n)) (zip2 shr xs (replicate 4 (32 - n)))) k 0 ≡ rotl n (get_or xs k 0)
lane_rotl n xs k e =
    let high = lane_splat shl 4 n (rw zero-mul) xs k e in
    let low = lane_splat shr 4 (32 - n) (zero-div _) xs k e in
    let highs = length-zip2 shl xs (replicate 4 n) e in
    let lows = length-zip2 shr xs (replicate 4 (32 - n)) e in
    lane_zip2 bit_or refl (zip2 shl xs (replicate 4 n)) (zip2 shr xs (replicate 4 (32 - n))) k (highs ∙ sym lows) ∙ cc
