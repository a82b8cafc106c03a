-- Registers are told apart by their rows.
use Rattle.std.proofs.Common.{◌≡◌, ℕ, ◌+◌, ◌<◌, ◌≤◌, Bool, true, false, T, ltb, List, [], ◌∷◌, map, reverse, length, get_or, set, Some, None, Decides, sym, refl, ap, ◌∙◌, subst, arith, ltb→lt}
use mathlib.Core.HLevel.{is_prop→PathP}
use mathlib.Core.List.{reverse-append}
use native.Mathlib.Nat.{ℕ_set}
use native.Mathlib.Bridge.{le_prop}
use Rattle.std.specs.Str.{bytes_eq}
use Rattle.std.proofs.lemmas.Slice.Eq.{bytes_eq-Decides, slice_eq-Decides}
use Rattle.std.proofs.lemmas.List.{take_more_set, reverse-reverse, length-take-le, length-reverse, length-map, get_or-take}
use Rattle.std.proofs.lemmas.Option.{slice_get-get_or, slice_get_past}
use Rattle.std.specs.List.{slice_get}
use Rattle.std.proofs.lemmas.Bool.Decides.{nat_tests}
use Rattle.device.specs.declared.digests.Digest.{Digest}
use Rattle.device.specs.declared.registers.Register.{Register}
use Rattle.device.specs.Rows.{row, words, pushed, pushed_at, same_digests}

pub register_is : (r s : Register) → r.digests ≡ s.digests → r.len ≡ s.len → r ≡ s
register_is r s d l = λ i. record { digests = d i; len = l i; long = is_prop→PathP (λ i. length (d i) ≡ 16) (λ i. ℕ_set (length (d i)) 16) r.long s.long i; fits = is_prop→PathP (λ i. l i ≤ 16) (λ i. le_prop) r.fits s.fits i }

pub digest_is : (d e : Digest) → Decides (bytes_eq d.bytes e.bytes) (d ≡ e)
digest_is d e = let h = bytes_eq-Decides d.bytes e.bytes in ((λ t. λ i. record { bytes = h.0 t i }), λ p. h.1 (ap (λ x. x.bytes) p))

pub same_digests_decides : (ds es : List Digest) → Decides (same_digests ds es) (ds ≡ es)
same_digests_decides ds es = slice_eq-Decides digest_is ds es _ refl

pub some_is : {A : Type 0} {x y : A} → Some x ≡ Some y → x ≡ y
some_is e = cc

pub pushed_is : (r s : Register) (d : Digest) → r.len < 16 → s.digests ≡ set r.digests r.len d → s.len ≡ r.len + 1 → Some s ≡ pushed r d
pushed_is r s d below f g = by (ltb r.len 16) refl
  where
    by : (b : Bool) (e : ltb r.len 16 ≡ b) → Some s ≡ pushed_at r d b e
    by true e = ap Some (register_is s _ f g)
    by false e = absurd (grind (arith, nat_tests))

-- what the register holds with one digest more
pub words_more : (r s : Register) (d : Digest) → pushed r d ≡ Some s → words s ≡ d.bytes ∷ words r
words_more r s d = by (ltb r.len 16) refl
  where
    by : (b : Bool) (e : ltb r.len 16 ≡ b) → pushed_at r d b e ≡ Some s → words s ≡ d.bytes ∷ words r
    by true e is =
        let below : r.len < 16 = ltb→lt r.len 16 (subst (λ b. T b) (sym e) tt) in
        let room : r.len < length r.digests = omega (arith, r.long) in
        ap words (sym (some_is is)) ∙ ap (λ ds. map (λ x. x.bytes) (reverse ds)) (take_more_set r.digests r.len d room) ∙ ap (map (λ x. x.bytes)) (reverse-append (row r) (d ∷ []))
    by false e is = absurd (grind arith)

-- rows that mean the same are the same
same_bytes_of : (ds es : List Digest) → map (λ d. d.bytes) ds ≡ map (λ d. d.bytes) es → ds ≡ es
same_bytes_of [] [] e = refl
same_bytes_of [] (y ∷ ys) e = absurd (grind arith)
same_bytes_of (x ∷ xs) [] e = absurd (grind arith)
same_bytes_of (x ∷ xs) (y ∷ ys) e = by (same_bytes_of xs ys cc)
  where
    by : xs ≡ ys → ◌≡◌ {A = List Digest} (x ∷ xs) (y ∷ ys)
    by rest = let first : x.bytes ≡ y.bytes = cc in λ i. record { bytes = first i } ∷ rest i

pub same_words : (r s : Register) → words r ≡ words s → row r ≡ row s
same_words r s e = sym (reverse-reverse (row r)) ∙ ap reverse (same_bytes_of (reverse (row r)) (reverse (row s)) e) ∙ reverse-reverse (row s)

pub row_length : (r : Register) → length (row r) ≡ r.len
row_length r = length-take-le r.len r.digests (omega (arith, r.long, r.fits))

pub row_at : (r : Register) (i : ℕ) (d : Digest) → i < r.len → Some (get_or r.digests i d) ≡ slice_get (row r) i
row_at r i d below = sym (slice_get-get_or (row r) i d (omega (arith, row_length r)) ∙ ap Some (get_or-take r.len r.digests i d below))

pub row_past : (r : Register) (i : ℕ) → r.len ≤ i → None ≡ slice_get (row r) i
row_past r i past = sym (slice_get_past (row r) i (omega (arith, row_length r)))

pub row_empty : (r : Register) → words r ≡ [] → length (row r) ≡ 0
row_empty r e = sym (length-reverse (row r)) ∙ sym (length-map (reverse (row r)) (λ d. d.bytes)) ∙ ap length e
