-- The schedule as an array that is filled from the front, and the rounds that read it.
use Rattle.std.proofs.Common.{◌≡◌, ℕ, zero, suc, ◌+◌, ◌-◌, ◌*◌, ◌%◌, ◌<◌, ◌≤◌, Bool, true, false, eqb, ltb, ◌≢◌, List, [], ◌∷◌, ◌++◌, length, get_or, take, drop, set, sym, refl, ap, ◌∙◌, subst, add-zero, add-suc, add-one, arith, lit<, lit≤, length-append}
use Rattle.std.proofs.lemmas.List.{drop-drop, get_or-drop, get_or_push, get_or-set_other, get_or-set_same, get_or-take, length-set, take_all, take-append-le, take_more}
use Rattle.std.proofs.lemmas.Bool.{eqb-false, eqb-true}
use Rattle.std.proofs.lemmas.Grind.{same_number_lists}
use Rattle.std.specs.Int.{from_be_bytes, w32}
use Rattle.std.specs.Simd.{first_chunks}
use Rattle.hash.specs.declared.constants.TheConstants.{K}
use Rattle.hash.specs.Sha256.{constants, extended, schedule, round, rounds, sums}
use Rattle.hash.specs.Words.{plus, ssig0, ssig1, word_at}

length_schedule : (m : List ℕ) (n : ℕ) → length (schedule m n) ≡ n
unfolding schedule
length_schedule m zero = refl
length_schedule m (suc n) = length-append (schedule m n) _ ∙ simp add-one (ap (λ k. suc k) (length_schedule m n))

take_schedule : (m : List ℕ) (a b : ℕ) → take a (schedule m (a + b)) ≡ schedule m a
unfolding schedule
take_schedule m a zero = let l = length_schedule m a in rw add-zero (take_all a (schedule m a) (omega arith))
take_schedule m a (suc b) =
    let l = length_schedule m (a + b) in
    rw add-suc (take-append-le a (schedule m (a + b)) _ (omega arith) ∙ take_schedule m a b)

schedule_loaded : (m : List ℕ) (t : ℕ) → t < 16 → schedule m (t + 1) ≡ schedule m t ++ (word_at m (4 * t) ∷ [])
unfolding schedule
schedule_loaded m t h =
    let b : ltb t 16 ≡ true = grind arith in
    let s : schedule m (t + 1) ≡ extended m t (schedule m t) = ap (schedule m) (add-one t) in
    s ∙ rw b

loaded_front
    : (m w : List ℕ) → length w ≡ 16 → ((t : ℕ) → t < 16 → get_or w t 0 ≡ word_at m (4 * t)) → (n : ℕ) → n ≤ 16
    → take n w ≡ schedule m n
unfolding schedule
loaded_front m w l at zero h = refl
loaded_front m w l at (suc n) h =
    let p = take_more w n 0 (omega arith) in
    let f = loaded_front m w l at n (omega arith) in
    let s = schedule_loaded m n (omega arith) in
    let e = at n (omega arith) in
    subst (λ i. take i w ≡ schedule m i) (add-one n) cc

-- the words of the block are the first sixteen of the schedule
pub loaded
    : (m w : List ℕ) → length w ≡ 16 → ((t : ℕ) → t < 16 → get_or w t 0 ≡ word_at m (4 * t)) → w ≡ schedule m 16
loaded m w l at = sym (take_all 16 w (omega arith)) ∙ loaded_front m w l at 16 (lit≤ tt)

four_at : (k i : ℕ) (xs : List ℕ) → i < k → get_or (first_chunks 4 k xs) i [] ≡ take 4 (drop (4 * i) xs)
four_at zero i xs h = absurd (omega arith)
four_at (suc k) zero xs h = refl
four_at (suc k) (suc i) xs h =
    let n : 4 + 4 * i ≡ 4 * suc i = omega arith in
    four_at k i (drop 4 xs) (omega arith) ∙ ap (take 4) (drop-drop (4 * i) 4 xs ∙ ap (λ a. drop a xs) n)

four_bytes
    : (bs m : List ℕ) (k : ℕ) → ((j : ℕ) → j < 4 → get_or bs j 0 ≡ get_or m (k + j) 0) → from_be_bytes w32 bs ≡ word_at m k
four_bytes bs m k at =
    let b0 : get_or bs 0 0 ≡ get_or m k 0 = at 0 (lit< tt) ∙ ap (λ i. get_or m i 0) (add-zero k) in
    let b1 = at 1 (lit< tt) in
    let b2 = at 2 (lit< tt) in
    let b3 = at 3 (lit< tt) in
    rw (b0, b1, b2, b3)

-- the word that the four bytes of a chunk give, the highest first
pub word_is : (m : List ℕ) (i : ℕ) → i < 16 → from_be_bytes w32 (get_or (first_chunks 4 16 m) i []) ≡ word_at m (4 * i)
word_is m i h =
    ap (from_be_bytes w32) (four_at 16 i m h)
    ∙ four_bytes _ m (4 * i) (λ j l. get_or-take 4 (drop (4 * i) m) j 0 l ∙ get_or-drop (4 * i) m j 0)

-- a word is the same in every schedule that has reached it
entry : (m : List ℕ) (n i : ℕ) → i < n → n ≤ 64 → get_or (schedule m n) i 0 ≡ get_or (schedule m 64) i 0
entry m n i h l =
    let p : take n (schedule m 64) ≡ schedule m n =
    subst (λ q. take n (schedule m q) ≡ schedule m n) (omega arith) (take_schedule m n (64 - n))
    in
    ap (λ ws. get_or ws i 0) (sym p) ∙ get_or-take n (schedule m 64) i 0 h

abbrev word_of : List ℕ → ℕ → ℕ
word_of m t = get_or (schedule m 64) t 0

-- the word after sixteen words from t on
extended_word
    : (m : List ℕ) (t : ℕ) → t < 48
    → word_of m (t + 16) ≡ plus (plus (plus (ssig1 (word_of m (t + 14))) (word_of m (t + 9))) (ssig0 (word_of m (t + 1)))) (word_of m t)
unfolding schedule
extended_word m t h =
    let b : ltb (t + 16) 16 ≡ false = grind arith in
    let e : t + 17 ≡ suc (t + 16) = omega arith in
    let s : schedule m (t + 17) ≡ extended m (t + 16) (schedule m (t + 16)) = ap (schedule m) e in
    let i2 : t + 16 - 2 ≡ t + 14 = omega arith in
    let i7 : t + 16 - 7 ≡ t + 9 = omega arith in
    let i15 : t + 16 - 15 ≡ t + 1 = omega arith in
    let i16 : t + 16 - 16 ≡ t = omega arith in
    let r0 = entry m (t + 16) t (omega arith) (omega arith) in
    let r1 = entry m (t + 16) (t + 1) (omega arith) (omega arith) in
    let r9 = entry m (t + 16) (t + 9) (omega arith) (omega arith) in
    let r14 = entry m (t + 16) (t + 14) (omega arith) (omega arith) in
    sym (entry m (t + 17) (t + 16) (omega arith) (omega arith))
    ∙ ap (λ ws. get_or ws (t + 16) 0) s
    ∙ get_or_push (schedule m (t + 16)) _ 0 (t + 16) (length_schedule m (t + 16))
    ∙ rw (b, i2, i7, i15, i16, r0, r1, r9, r14)

-- sixteen words from t on, the word k at k % 16
pub record Ring (m w : List ℕ) (t : ℕ) : Type 0 where
  pub long : length w ≡ 16
  pub at : (k : ℕ) → t ≤ k → k < t + 16 → get_or w (k % 16) 0 ≡ word_of m k

pub ring_start : (m w : List ℕ) → w ≡ schedule m 16 → Ring m w 0
ring_start m w e =
    record {
      long = ap length e ∙ length_schedule m 16;
      at = λ k l h.
          let p : k % 16 ≡ k = omega arith in
          rw p (ap (λ ws. get_or ws k 0) e ∙ entry m 16 k (omega arith) (lit≤ tt));
    }

-- what stands in the place p
pub read : (m w : List ℕ) (t k p : ℕ) → Ring m w t → t ≤ k → k < t + 16 → p ≡ k % 16 → get_or w p 0 ≡ word_of m k
read m w t k p r l h e = ap (λ q. get_or w q 0) e ∙ r.at k l h

ring_set
    : (m w : List ℕ) (t n p v : ℕ) → Ring m w t → n ≡ t + 1 → p ≡ t % 16 → v ≡ word_of m (t + 16) → Ring m (set w p v) n
ring_set m w t n p v r e q f = record { long = length-set w p v ∙ r.long; at = λ k l h. by k l h (eqb k (t + 16)) refl } where
  by : (k : ℕ) → n ≤ k → k < n + 16 → (b : Bool) → eqb k (t + 16) ≡ b → get_or (set w p v) (k % 16) 0 ≡ word_of m k
  by k l h true c =
      let j = eqb-true k (t + 16) c in
      let o : k % 16 ≡ p = omega arith in
      let g = get_or-set_same w p v 0 (omega (arith, r.long)) in
      rw (o, j) (g ∙ f)
  by k l h false c =
      let j = eqb-false k (t + 16) c in
      let o : k % 16 ≢ p = omega arith in
      get_or-set_other w p (k % 16) v 0 o ∙ r.at k (omega arith) (omega arith)

pub ring_more
    : (m w : List ℕ) (t n p p1 p9 p14 : ℕ) → Ring m w t → t < 48 → n ≡ t + 1 → p ≡ t % 16 → p1 ≡ (t + 1) % 16 → p9 ≡ (t + 9) % 16
    → p14 ≡ (t + 14) % 16
    → Ring m (set w p (plus (plus (plus (ssig1 (get_or w p14 0)) (get_or w p9 0)) (ssig0 (get_or w p1 0))) (get_or w p 0))) n
ring_more m w t n p p1 p9 p14 r h e q q1 q9 q14 =
    let r0 = read m w t t p r (omega arith) (omega arith) q in
    let r1 = read m w t (t + 1) p1 r (omega arith) (omega arith) q1 in
    let r9 = read m w t (t + 9) p9 r (omega arith) (omega arith) q9 in
    let r14 = read m w t (t + 14) p14 r (omega arith) (omega arith) q14 in
    ring_set m w t n p _ r e q (rw (r0, r1, r9, r14) (sym (extended_word m t h)))

-- the first sum of a round, in another order
pub first_sum : (h s c k w x : ℕ) → x ≡ plus k w → plus (plus (plus h x) c) s ≡ plus (plus (plus (plus h s) c) k) w
first_sum h s c k w x e = omega arith

rows : (i : ℕ) (d : List ℕ) → i < 4 → get_or K i d ≡ take 16 (drop (16 * i) constants)
unfolding constants
rows zero d h = refl
rows (suc zero) d h = refl
rows (suc (suc zero)) d h = refl
rows (suc (suc (suc zero))) d h = refl
rows (suc (suc (suc (suc i)))) d h = absurd (omega arith)

-- the constants, row by row
pub row_at : (i j : ℕ) (d : List ℕ) → i < 4 → j < 16 → get_or (get_or K i d) j 0 ≡ get_or constants (16 * i + j) 0
row_at i j d h l = ap (λ r. get_or r j 0) (rows i d h) ∙ get_or-take 16 _ j 0 l ∙ get_or-drop (16 * i) constants j 0

pub first_rows
    : (i j : ℕ) (d : List ℕ) → i < 3 → j < 16 → get_or (get_or (take 3 K) i d) j 0 ≡ get_or constants (16 * i + j) 0
first_rows i j d h l = ap (λ r. get_or r j 0) (get_or-take 3 K i d h) ∙ row_at i j d (omega arith) l

sum_at : (h s : List ℕ) (i : ℕ) → i < 8 → plus (get_or h i 0) (get_or s i 0) ≡ get_or (sums h s) i 0
sum_at h s zero l = refl
sum_at h s (suc zero) l = refl
sum_at h s (suc (suc zero)) l = refl
sum_at h s (suc (suc (suc zero))) l = refl
sum_at h s (suc (suc (suc (suc zero)))) l = refl
sum_at h s (suc (suc (suc (suc (suc zero))))) l = refl
sum_at h s (suc (suc (suc (suc (suc (suc zero)))))) l = refl
sum_at h s (suc (suc (suc (suc (suc (suc (suc zero))))))) l = refl
sum_at h s (suc (suc (suc (suc (suc (suc (suc (suc i)))))))) l = absurd (omega arith)

-- the eight sums
pub summed
    : (h s r : List ℕ) → length r ≡ 8 → ((i : ℕ) → i < 8 → get_or r i 0 ≡ plus (get_or h i 0) (get_or s i 0)) → r ≡ sums h s
summed h s r l at = same_number_lists r (sums h s) l (λ i k. let m : i < 8 = omega arith in at i m ∙ sum_at h s i m)

-- the round t, the round j of its sixteen, with the sum of its constant and its word
pub rounds_more
    : (h m w x s r : List ℕ) (o u j t n : ℕ) → ((k v : ℕ) → get_or x j 0 ≡ plus k v → r ≡ round s k v)
    → ((k : ℕ) → k < 16 → get_or x k 0 ≡ plus (get_or constants (o + k) 0) (get_or w k 0)) → Ring m w u → o ≡ u → u % 16 ≡ 0
    → t ≡ u + j → j < 16 → s ≡ rounds h (schedule m 64) t → n ≡ t + 1 → r ≡ rounds h (schedule m 64) n
unfolding rounds
rounds_more h m w x s r o u j t n step sum ring p z q l e f =
    let v = read m w u t j ring (omega arith) (omega arith) (omega arith) in
    let y : o + j ≡ t = omega arith in
    step _ _ (sum j l ∙ (λ i. plus (get_or constants (y i) 0) (v i))) ∙ rw (f, add-one, e)
