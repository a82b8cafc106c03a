-- A place holds what was written to it, and which of two holds the latest.
use Rattle.std.proofs.Common.{◌≡◌, ℕ, ◌+◌, ◌/◌, ◌^◌, ◌<◌, ◌≤◌, Bool, true, false, cond, ltb, ◌⊎◌, List, [], length, get_or, take, drop, Some, None, Decides, sym, refl, ap, ◌∙◌, subst, inl, inr, arith}
use Rattle.std.proofs.lemmas.List.{take_all, get_or-take, get_or-drop, length-drop}
use Rattle.std.proofs.lemmas.Nat.{from_be_bytes-to_be_bytes_8}
use Rattle.std.proofs.lemmas.Bool.Decides.{same_from_decides}
use Rattle.std.specs.Int.{from_be_bytes, w64}
use Rattle.std.specs.List.{slice_index}
use Rattle.std.specs.Simd.{first_chunks}
use Rattle.hash.proofs.Sizes.{length_sha256}
use Rattle.std.proofs.lemmas.Slice.Eq.{bytes_eq-Decides}
use Rattle.hash.specs.Sha256.{sha256}
use Rattle.slots.specs.Places.{Places, other, at_side, with_place, text, place_of, number_at, fits, marks_in, held, age, later_of, latest}
use Rattle.slots.specs.declared.marks.Marks.{Marks}
use Rattle.slots.specs.declared.marks.Side.{Side}
use Rattle.slots.specs.declared.marks.Side.TheVariants.{First, Second}

pub fits_place : (m : Marks) → fits (place_of m) ≡ true
unfolding fits
fits_place m = (bytes_eq-Decides (take 32 (sha256 (text m))) (sha256 (text m))).1 (let long = length_sha256 (text m) in take_all 32 (sha256 (text m)) (omega arith))

-- the comparison of a place's sum answers whether it fits: t is its text, and s its sum
pub fits_by : (p t s d : List ℕ) (b : Bool) → length p ≡ 48 → t ≡ take 16 p → s ≡ drop 16 p → d ≡ sha256 t → Decides b (s ≡ d) → fits p ≡ b
unfolding fits
fits_by p t s d b long text sum digest e =
    let whole : s ≡ take 32 (drop 16 p) = sum ∙ sym (take_all 32 (drop 16 p) (let rest = length-drop 16 p in omega arith)) in
    same_from_decides _ b (bytes_eq-Decides _ _) (subst (λ z. Decides b (z ≡ sha256 (take 16 p))) whole (subst (λ z. Decides b (s ≡ z)) (digest ∙ ap sha256 text) e))

-- a byte of the text, in the eight from i on
byte : (p : List ℕ) (i k : ℕ) → k < 8 → i + k < 16 → slice_index (take 8 (drop i (take 16 p))) k ≡ slice_index p (i + k)
byte p i k low below = get_or-take 8 (drop i (take 16 p)) k 0 low ∙ get_or-drop i (take 16 p) k 0 ∙ get_or-take 16 p (i + k) 0 below

number_is : (p : List ℕ) (i : ℕ) → i ≤ 8 → from_be_bytes w64 (take 8 (drop i (take 16 p))) ≡ number_at p i
number_is p i h = grind (arith, byte p i)

-- the numbers in a place's text, t, whose parts of eight bytes are ws
pub numbers_are : (p t : List ℕ) (ws : List (List ℕ)) → t ≡ take 16 p → length t ≡ 16 → ws ≡ first_chunks 8 (length t / 8) t → (from_be_bytes w64 (get_or ws 0 []) ≡ number_at p 0) × (from_be_bytes w64 (get_or ws 1 []) ≡ number_at p 8)
numbers_are p t ws text long parts =
    let two : ws ≡ first_chunks 8 2 (take 16 p) = parts ∙ (λ i. first_chunks 8 (long i / 8) (text i)) in
    (ap (λ z. from_be_bytes w64 (get_or z 0 [])) two ∙ number_is p 0 (omega arith), ap (λ z. from_be_bytes w64 (get_or z 1 [])) two ∙ number_is p 8 (omega arith))

pub held_is : (p : List ℕ) (b : Bool) → fits p ≡ b → held p ≡ cond b (Some (marks_in p)) None
unfolding held
held_is p b e = ap (λ z. cond z (Some (marks_in p)) None) e

pub held_place : (m : Marks) → m.counter < 2 ^ 64 → m.number < 2 ^ 64 → held (place_of m) ≡ Some m
held_place m c n = held_is _ true (fits_place m) ∙ (λ i. Some (record { counter = from_be_bytes-to_be_bytes_8 m.counter c i; number = from_be_bytes-to_be_bytes_8 m.number n i }))

-- ---- the latest of two

-- the place at s holds m, and the other nothing that fits, or what is older
pub record Good (p : Places) (s : Side) (m : Marks) : Type 0 where
  pub here : held (at_side s p) ≡ Some m
  pub there : (held (at_side (other s) p) ≡ None) ⊎ ((k : Marks) × (held (at_side (other s) p) ≡ Some k) × (age k ≤ age m) × (s ≡ Second → age k < age m))

pub latest_good : (p : Places) (s : Side) (m : Marks) → Good p s m → latest p ≡ Some (s, m)
latest_good p First m g = by g.there
  where
    by : (held p.second ≡ None) ⊎ ((k : Marks) × (held p.second ≡ Some k) × (age k ≤ age m) × (First ≡ Second → age k < age m)) → latest p ≡ Some (First, m)
    by (inl none) = λ i. later_of (g.here i) (none i)
    by (inr (k, there, older, _)) =
        let not_older : ltb (age m) (age k) ≡ false = grind arith in
        (λ i. later_of (g.here i) (there i)) ∙ ap (λ b. cond b (Some (Second, k)) (Some (First, m))) not_older
latest_good p Second m g = by g.there
  where
    by : (held p.first ≡ None) ⊎ ((k : Marks) × (held p.first ≡ Some k) × (age k ≤ age m) × (Second ≡ Second → age k < age m)) → latest p ≡ Some (Second, m)
    by (inl none) = λ i. later_of (none i) (g.here i)
    by (inr (k, there, _, older)) =
        let below : age k < age m = older refl in
        let is_older : ltb (age k) (age m) ≡ true = grind arith in
        (λ i. later_of (there i) (g.here i)) ∙ ap (λ b. cond b (Some (Second, m)) (Some (First, k))) is_older

-- ---- after a write

-- something newer stands at the other side
pub good_newer : (p : Places) (s : Side) (m n : Marks) (q : List ℕ) → Good p s m → held q ≡ Some n → age m < age n → Good (with_place (other s) q p) (other s) n
good_newer p First m n q g e older = record { here = e; there = inr (m, g.here, omega arith, λ _. older) }
good_newer p Second m n q g e older = record { here = e; there = inr (m, g.here, omega arith, λ _. older) }

-- what stands there fits no sum
pub good_junk : (p : Places) (s : Side) (m : Marks) (q : List ℕ) → Good p s m → held q ≡ None → Good (with_place (other s) q p) s m
good_junk p First m q g e = record { here = g.here; there = inl e }
good_junk p Second m q g e = record { here = g.here; there = inl e }

-- what stood there stands there
pub good_same : (p : Places) (s : Side) (m : Marks) (q : List ℕ) → Good p s m → q ≡ at_side (other s) p → Good (with_place (other s) q p) s m
good_same p First m q g e = subst (λ x. Good (record { first = p.first; second = x }) First m) (sym e) g
good_same p Second m q g e = subst (λ x. Good (record { first = x; second = p.second }) Second m) (sym e) g
