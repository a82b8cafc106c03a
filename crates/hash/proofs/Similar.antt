-- Bytes compared by what their differences leave.
use Rattle.std.proofs.Common.{◌≡◌, ℕ, ◌+◌, ◌<◌, ◌≤◌, eqb, List, [], ◌∷◌, ◌++◌, length, get_or, take, Decides, ap, arith}
use lib.Bits.{bit_or, bit_xor, and_le_l, and_le_r, or_add_and, xor_add_and, xor_self}
use Rattle.std.proofs.lemmas.List.{same_from_push, take_all, take_more}
use Rattle.std.proofs.lemmas.Bool.{eq-eqb, eqb-true}

-- d is zero just where the first i bytes agree
pub record Agree (a b : List ℕ) (i d : ℕ) : Type 0 where
  pub same : d ≡ 0 → take i a ≡ take i b
  pub none : take i a ≡ take i b → d ≡ 0

or_none : (a b : ℕ) → bit_or a b ≡ 0 → (a ≡ 0) × (b ≡ 0)
or_none a b e =
    let p = or_add_and a b in
    let l = and_le_l a b in
    let r = and_le_r a b in
    (omega arith, omega arith)

xor_none : (a b : ℕ) → bit_xor a b ≡ 0 → a ≡ b
xor_none a b e =
    let p = xor_add_and a b in
    let l = and_le_l a b in
    let r = and_le_r a b in
    omega arith

pub agree_more
    : (a b : List ℕ) (i d : ℕ) → Agree a b i d → i < length a → i < length b
    → Agree a b (i + 1) (bit_or d (bit_xor (get_or a i 0) (get_or b i 0)))
agree_more a b i d k l m =
    let p = take_more a i 0 l in
    let q = take_more b i 0 m in
    record {
      same = λ e.
          let z = or_none d (bit_xor (get_or a i 0) (get_or b i 0)) e in
          let s = k.same z.0 in
          let x = xor_none (get_or a i 0) (get_or b i 0) z.1 in
          cc;
      none = λ e.
          let f : take i a ++ get_or a i 0 ∷ [] ≡ take i b ++ get_or b i 0 ∷ [] = cc in
          let s = same_from_push (take i a) (take i b) (get_or a i 0) (get_or b i 0) f in
          let z = k.none s.0 in
          let x : bit_xor (get_or a i 0) (get_or b i 0) ≡ 0 = rw s.1 (xor_self (get_or b i 0)) in
          rw (z, x);
    }

pub agree_all
    : (a b : List ℕ) (i d : ℕ) → Agree a b i d → length a ≤ i → length b ≤ i → Decides (eqb d 0) (a ≡ b)
agree_all a b i d k l m =
    let p = take_all i a l in
    let q = take_all i b m in (
      λ t. (let s = k.same (eqb-true d 0 t) in cc),
      λ e. eq-eqb d 0 (k.none (ap (take i) e)),
    )
