-- Equal functions of bits: it is enough that they agree on single bits.
use Rattle.std.proofs.Common.{◌≡◌, ℕ, zero, suc, ◌-◌, ◌/◌, ◌%◌, ◌^◌, ◌<◌, sym, refl, ap, ◌∙◌, pow-suc, arith}
use lib.Bits.{bit_and, bit_xor, and_mod, and_shr, xor_mod, xor_shr}
use Rattle.hash.specs.Words.{ch, maj}

-- f works on each bit by itself
record Bitwise (f : ℕ → ℕ → ℕ → ℕ → ℕ) : Type 0 where
  none : f 0 0 0 0 ≡ 0
  half : (x c y z : ℕ) → f x c y z / 2 ≡ f (x / 2) (c / 2) (y / 2) (z / 2)
  last : (x c y z : ℕ) → f x c y z % 2 ≡ f (x % 2) (c % 2) (y % 2) (z % 2)

by_bit : (P : ℕ → Type 0) (x : ℕ) → x < 2 → P 0 → P 1 → P x
by_bit P zero h a b = a
by_bit P (suc zero) h a b = b
by_bit P (suc (suc x)) h a b = absurd (omega arith)

by_bits
    : (f g : ℕ → ℕ → ℕ → ℕ → ℕ)
    → f 0 1 0 0 ≡ g 0 1 0 0 → f 0 1 0 1 ≡ g 0 1 0 1 → f 0 1 1 0 ≡ g 0 1 1 0 → f 0 1 1 1 ≡ g 0 1 1 1
    → f 1 0 0 0 ≡ g 1 0 0 0 → f 1 0 0 1 ≡ g 1 0 0 1 → f 1 0 1 0 ≡ g 1 0 1 0 → f 1 0 1 1 ≡ g 1 0 1 1
    → (x y z : ℕ) → x < 2 → y < 2 → z < 2 → f x (1 - x) y z ≡ g x (1 - x) y z
by_bits f g a b c d p q r s x y z h i j =
    by_bit (λ x. f x (1 - x) y z ≡ g x (1 - x) y z) x h
    (by_bit (λ y. f 0 1 y z ≡ g 0 1 y z) y i (by_bit (λ z. f 0 1 0 z ≡ g 0 1 0 z) z j a b) (by_bit (λ z. f 0 1 1 z ≡ g 0 1 1 z) z j c d))
    (by_bit (λ y. f 1 0 y z ≡ g 1 0 y z) y i (by_bit (λ z. f 1 0 0 z ≡ g 1 0 0 z) z j p q) (by_bit (λ z. f 1 0 1 z ≡ g 1 0 1 z) z j r s))

by_halves : (a b : ℕ) → a / 2 ≡ b / 2 → a % 2 ≡ b % 2 → a ≡ b
by_halves a b p q = omega arith

-- of words of n bits, the second the complement of the first
same_bits
    : (f g : ℕ → ℕ → ℕ → ℕ → ℕ) → Bitwise f → Bitwise g
    → ((x y z : ℕ) → x < 2 → y < 2 → z < 2 → f x (1 - x) y z ≡ g x (1 - x) y z)
    → (n x y z : ℕ) → x < 2 ^ n → y < 2 ^ n → z < 2 ^ n → f x (2 ^ n - 1 - x) y z ≡ g x (2 ^ n - 1 - x) y z
same_bits f g bf bg b zero x y z h i j =
    let p : x ≡ 0 = omega arith in
    let q : y ≡ 0 = omega arith in
    let r : z ≡ 0 = omega arith in
    rw (p, q, r) (bf.none ∙ sym bg.none)
same_bits f g bf bg b (suc n) x y z h i j =
    let w = pow-suc 2 n in
    let c : ℕ = 2 ^ suc n - 1 - x in
    let p : c / 2 ≡ 2 ^ n - 1 - x / 2 = omega arith in
    let q : c % 2 ≡ 1 - x % 2 = omega arith in
    let l = same_bits f g bf bg b n (x / 2) (y / 2) (z / 2) (omega arith) (omega arith) (omega arith) in
    let r = b (x % 2) (y % 2) (z % 2) (omega arith) (omega arith) (omega arith) in
    by_halves (f x c y z) (g x c y z)
    (bf.half x c y z ∙ ap (λ d. f (x / 2) d (y / 2) (z / 2)) p ∙ l ∙ ap (λ d. g (x / 2) d (y / 2) (z / 2)) (sym p) ∙ sym (bg.half x c y z))
    (bf.last x c y z ∙ ap (λ d. f (x % 2) d (y % 2) (z % 2)) q ∙ r ∙ ap (λ d. g (x % 2) d (y % 2) (z % 2)) (sym q) ∙ sym (bg.last x c y z))

-- the choice
abbrev chosen : ℕ → ℕ → ℕ → ℕ → ℕ
chosen x c y z = bit_xor z (bit_and x (bit_xor y z))

chosen_bitwise : Bitwise chosen
chosen_bitwise = record {
  none = refl;
  half = λ x c y z. xor_shr z _ 1 ∙ ap (bit_xor (z / 2)) (and_shr x _ 1 ∙ ap (bit_and (x / 2)) (xor_shr y z 1));
  last = λ x c y z. xor_mod z _ 1 ∙ ap (bit_xor (z % 2)) (and_mod x _ 1 ∙ ap (bit_and (x % 2)) (xor_mod y z 1));
}

abbrev ch_of : ℕ → ℕ → ℕ → ℕ → ℕ
ch_of x c y z = bit_xor (bit_and x y) (bit_and c z)

ch_bitwise : Bitwise ch_of
ch_bitwise = record {
  none = refl;
  half = λ x c y z. xor_shr _ _ 1 ∙ (λ i. bit_xor (and_shr x y 1 i) (and_shr c z 1 i));
  last = λ x c y z. xor_mod _ _ 1 ∙ (λ i. bit_xor (and_mod x y 1 i) (and_mod c z 1 i));
}

pub choice : (x y z : ℕ) → x < 2 ^ 32 → y < 2 ^ 32 → z < 2 ^ 32 → bit_xor z (bit_and x (bit_xor y z)) ≡ ch x y z
choice = same_bits chosen ch_of chosen_bitwise ch_bitwise (by_bits chosen ch_of refl refl refl refl refl refl refl refl) 32

-- the majority
abbrev most : ℕ → ℕ → ℕ → ℕ → ℕ
most x c y z = bit_xor (bit_and (bit_xor x y) (bit_xor y z)) y

most_bitwise : Bitwise most
most_bitwise = record {
  none = refl;
  half = λ x c y z. xor_shr _ y 1 ∙ ap (λ b. bit_xor b (y / 2)) (and_shr _ _ 1 ∙ (λ i. bit_and (xor_shr x y 1 i) (xor_shr y z 1 i)));
  last = λ x c y z. xor_mod _ y 1 ∙ ap (λ b. bit_xor b (y % 2)) (and_mod _ _ 1 ∙ (λ i. bit_and (xor_mod x y 1 i) (xor_mod y z 1 i)));
}

abbrev maj_of : ℕ → ℕ → ℕ → ℕ → ℕ
maj_of x c y z = maj x y z

maj_bitwise : Bitwise maj_of
maj_bitwise = record {
  none = refl;
  half = λ x c y z. xor_shr _ _ 1 ∙ (λ i. bit_xor ((xor_shr _ _ 1 ∙ (λ j. bit_xor (and_shr x y 1 j) (and_shr x z 1 j))) i) (and_shr y z 1 i));
  last = λ x c y z. xor_mod _ _ 1 ∙ (λ i. bit_xor ((xor_mod _ _ 1 ∙ (λ j. bit_xor (and_mod x y 1 j) (and_mod x z 1 j))) i) (and_mod y z 1 i));
}

pub majority : (x y z : ℕ) → x < 2 ^ 32 → y < 2 ^ 32 → z < 2 ^ 32 → bit_xor (bit_and (bit_xor x y) (bit_xor y z)) y ≡ maj x y z
majority = same_bits most maj_of most_bitwise maj_bitwise (by_bits most maj_of refl refl refl refl refl refl refl refl) 32
