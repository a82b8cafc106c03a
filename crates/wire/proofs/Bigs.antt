-- Numbers, high byte first: written and read again they are the same, and so are the bytes.
use Rattle.std.proofs.Common.{◌≡◌, ℕ, zero, suc, ◌+◌, ◌*◌, ◌/◌, ◌%◌, ◌^◌, ◌<◌, ◌≤◌, leb, Bool, true, false, cond, List, [], ◌∷◌, ◌++◌, length, get_or, take, drop, replicate, sym, refl, ap, ◌∙◌, subst, add-zero, pow-suc, zero-add, arith, le-leb}
use native.Mathlib.Nat.{div-div-eq-div-mul}
use Rattle.std.specs.Int.Digits.{number_from_digits, number_from_digits_after, AllBelowBase}
use Rattle.std.proofs.lemmas.Int.Digits.{number_push}
use Rattle.std.proofs.lemmas.List.{append-nil, append_assoc, length_push}
use Rattle.std.proofs.lemmas.Bool.{cond-true}
use Rattle.wire.specs.Fields.{number_in, bytes_in, part_in}
use Rattle.wire.specs.Layouts.{big, number_at}

pub length_big : (width n : ℕ) → length (big width n) ≡ width
unfolding big
length_big zero n = refl
length_big (suc width) n =
    let h = length_big width (n / 256) in
    let p = length_push (big width (n / 256)) (n % 256) in
    omega arith

pub number_big : (width n : ℕ) → n < 256 ^ width → number_from_digits 256 (big width n) ≡ n
unfolding big
number_big zero n h = let s : n < 1 = h in omega arith
number_big (suc width) n h =
    let s : n < 256 ^ width * 256 = subst (λ (m : ℕ). n < m) (pow-suc 256 width) h in
    let e = number_big width (n / 256) (omega arith) in
    let p = number_push 256 (big width (n / 256)) (n % 256) in
    omega arith

big_after : (width n : ℕ) (ds : List ℕ) → AllBelowBase 256 ds → big (width + length ds) (number_from_digits_after 256 n ds) ≡ big width n ++ ds
unfolding big
big_after width n [] u = ap (λ (k : ℕ). big k n) (add-zero width) ∙ sym (append-nil (big width n))
big_after width n (d ∷ ds) u =
    let small : d < 256 = u.0 in
    let quotient : (n * 256 + d) / 256 ≡ n = omega arith in
    let rest : (n * 256 + d) % 256 ≡ d = omega arith in
    let same : width + suc (length ds) ≡ suc width + length ds = omega arith in
    ap (λ (k : ℕ). big k (number_from_digits_after 256 (n * 256 + d) ds)) same
    ∙ big_after (suc width) (n * 256 + d) ds u.1
    ∙ append_assoc (big width ((n * 256 + d) / 256)) ((n * 256 + d) % 256 ∷ []) ds
    ∙ (λ i. big width (quotient i) ++ (rest i ∷ ds))

pub big_number : (ds : List ℕ) → AllBelowBase 256 ds → big (length ds) (number_from_digits 256 ds) ≡ ds
unfolding big
big_number ds u = ap (λ (k : ℕ). big k (number_from_digits 256 ds)) (sym (zero-add (length ds))) ∙ big_after 0 0 ds u

-- ---- a number in a word

zeros_number : (width : ℕ) → number_from_digits 256 (replicate width 0) ≡ 0
zeros_number zero = refl
zeros_number (suc width) = zeros_number width

pub number_of_part : (width at : ℕ) (w : List ℕ) → number_from_digits 256 (part_in width at w) ≡ number_in at width w
number_of_part width at w = by (leb (at + width) (length w))
  where
    by : (b : Bool) → number_from_digits 256 (cond b (take width (drop at w)) (replicate width 0)) ≡ cond b (number_at at width w) 0
    by true = refl
    by false = zeros_number width

-- within the word there are no zeros but its own

pub number_is : (at width : ℕ) (w : List ℕ) (r : ℕ) → at + width ≤ length w → r ≡ number_in at width w → r ≡ number_at at width w
number_is at width w r h e = e ∙ cond-true (leb (at + width) (length w)) (number_at at width w) 0 (le-leb (at + width) (length w) h)

pub bytes_are : (at : ℕ) (w r : List ℕ) → at + 32 ≤ length w → r ≡ bytes_in at w → r ≡ take 32 (drop at w)
bytes_are at w r h e = e ∙ cond-true (leb (at + 32) (length w)) (take 32 (drop at w)) (replicate 32 0) (le-leb (at + 32) (length w) h)

-- a number of one byte is that byte
pub byte_at : (at : ℕ) (w : List ℕ) → number_at at 1 w ≡ get_or w at 0
byte_at zero [] = refl
byte_at zero (x ∷ w) = omega arith
byte_at (suc at) [] = refl
byte_at (suc at) (x ∷ w) = byte_at at w

-- ---- a number as its bytes

pub one_byte : (n : ℕ) → n < 256 → n ∷ [] ≡ big 1 n
unfolding big
one_byte n h = let e : n ≡ n % 256 = omega arith in ap (λ (m : ℕ). m ∷ []) e

pub two_bytes : (n : ℕ) → (n / 256 % 256) ∷ (n % 256) ∷ [] ≡ big 2 n
unfolding big
two_bytes n = refl

pub four_bytes : (n : ℕ) → (n / 16777216 % 256) ∷ (n / 65536 % 256) ∷ (n / 256 % 256) ∷ (n % 256) ∷ [] ≡ big 4 n
unfolding big
four_bytes n = simp div-div-eq-div-mul

pub eight_bytes : (n : ℕ) → (n / 72057594037927936 % 256) ∷ (n / 281474976710656 % 256) ∷ (n / 1099511627776 % 256) ∷ (n / 4294967296 % 256) ∷ (n / 16777216 % 256) ∷ (n / 65536 % 256) ∷ (n / 256 % 256) ∷ (n % 256) ∷ [] ≡ big 8 n
unfolding big
eight_bytes n = simp div-div-eq-div-mul
