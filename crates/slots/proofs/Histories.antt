-- Over any sequence of commands and power losses.
use Rattle.std.proofs.Common.{◌≡◌, ℕ, suc, ◌+◌, ◌^◌, ◌<◌, ◌≤◌, Bool, true, false, cond, T, ltb, ◌⊎◌, List, [], ◌∷◌, length, Some, None, Option, sym, refl, subst, inl, inr, arith, ltb→lt}
use Rattle.slots.specs.Places.{Places, other, at_side, with_place, place_of, fits, held, age}
use Rattle.slots.specs.declared.marks.Act.{Act}
use Rattle.slots.specs.declared.marks.Act.TheVariants.{Counting, Closing}
use Rattle.slots.specs.declared.marks.Marks.{Marks}
use Rattle.slots.specs.declared.marks.Side.{Side}
use Rattle.slots.specs.declared.marks.Side.TheVariants.{First}
use Rattle.slots.specs.Histories.{next, Chip, Event, On, Does, Cut, written, doing, cutting, after, CutLeaves, finally, AllLeave, given_by, given, told_by, cut_by, told, closings_cut, Falling, new_chip, Survives}
use Rattle.slots.proofs.Held.{Good, held_place, held_is, latest_good, good_newer, good_junk, good_same}

-- the place at s holds m, and the other nothing later; ns: numbers given out so far; t: the counter told last, and counts cut since; k: closings cut so far
record Runs (p : Places) (s : Side) (m : Marks) (ns : List ℕ) (t : ℕ × ℕ) (k : ℕ) : Type 0 where
  good : Good p s m
  counter_bound : m.counter ≤ 2 ^ 63
  number_bound : m.number ≤ 2 ^ 63
  counter_up : t.0 ≤ m.counter
  counter_near : m.counter ≤ t.0 + t.1
  apart : Falling m.number ns
  number_near : m.number ≤ length ns + k

-- a chip that is on holds what its places hold
record Inv (c : Chip) (ns : List ℕ) (t : ℕ × ℕ) (k : ℕ) : Type 0 where
  side : Side
  marks : Marks
  live_is : (c.live ≡ None) ⊎ (c.live ≡ Some (side, marks))
  runs : Runs c.places side marks ns t k

falling_more : (n m : ℕ) (ns : List ℕ) → n ≤ m → Falling n ns → Falling m ns
falling_more n m [] h f = tt
falling_more n m (x ∷ xs) h f = let below : x < n = f.0 in (omega arith, f.1)

-- ---- the new is written

may_below : (n : ℕ) → ltb n (2 ^ 63) ≡ true → n < 2 ^ 63
may_below n e = ltb→lt n (2 ^ 63) (subst (λ b. T b) (sym e) tt)

newer : (a : Act) (m : Marks) → age m < age (next a m)
newer Counting m = omega arith
newer Closing m = omega arith

next_held : (a : Act) (m : Marks) → m.counter ≤ 2 ^ 63 → m.number ≤ 2 ^ 63 → held (place_of (next a m)) ≡ Some (next a m)
next_held Counting m c n = held_place (next Counting m) (omega arith) (omega arith)
next_held Closing m c n = held_place (next Closing m) (omega arith) (omega arith)

-- ---- one event

on : {c : Chip} {ns : List ℕ} {t : ℕ × ℕ} {k : ℕ} → Inv c ns t k → Inv (after c On) ns t k
on {c} i = record { side = i.side; marks = i.marks; live_is = inr (latest_good c.places i.side i.marks i.runs.good); runs = i.runs }

rests : {p : Places} {s : Side} {m : Marks} {ns : List ℕ} {t : ℕ × ℕ} {k : ℕ} (l : Option (Side × Marks)) → (l ≡ None) ⊎ (l ≡ Some (s, m)) → Runs p s m ns t k → Inv (record { places = p; live = l }) ns t k
rests {s = s} {m = m} l is r = record { side = s; marks = m; live_is = is; runs = r }

-- what was written, whether it is answered or not
counts : {p : Places} {s : Side} {m : Marks} {ns : List ℕ} {t u : ℕ × ℕ} {k : ℕ} → Runs p s m ns t k → ltb m.counter (2 ^ 63) ≡ true → u.0 ≤ suc m.counter → suc m.counter ≤ u.0 + u.1 → Runs (with_place (other s) (place_of (next Counting m)) p) (other s) (next Counting m) ns u k
counts {p} {s} {m} r e up near = let below = may_below m.counter e in record { good = good_newer p s m (next Counting m) _ r.good (next_held Counting m r.counter_bound r.number_bound) (newer Counting m); counter_bound = omega arith; number_bound = r.number_bound; counter_up = up; counter_near = near; apart = r.apart; number_near = r.number_near }

closes : {p : Places} {s : Side} {m : Marks} {ns ms : List ℕ} {t : ℕ × ℕ} {k l : ℕ} → Runs p s m ns t k → ltb m.number (2 ^ 63) ≡ true → Falling (suc m.number) ms → suc m.number ≤ length ms + l → Runs (with_place (other s) (place_of (next Closing m)) p) (other s) (next Closing m) ms t l
closes {p} {s} {m} r e apart near = let below = may_below m.number e in record { good = good_newer p s m (next Closing m) _ r.good (next_held Closing m r.counter_bound r.number_bound) (newer Closing m); counter_bound = r.counter_bound; number_bound = omega arith; counter_up = r.counter_up; counter_near = r.counter_near; apart = apart; number_near = near }

-- nothing new: only more may have been cut
stays : {p q : Places} {s : Side} {m : Marks} {ns : List ℕ} {t : ℕ × ℕ} {k : ℕ} (n l : ℕ) → t.1 ≤ n → k ≤ l → Good q s m → Runs p s m ns t k → Runs q s m ns (t.0, n) l
stays {m = m} {ns = ns} {t = t} {k = k} n l more cut g r =
    let up : m.counter ≤ t.0 + t.1 = r.counter_near in
    let near : m.number ≤ length ns + k = r.number_near in
    record { good = g; counter_bound = r.counter_bound; number_bound = r.number_bound; counter_up = r.counter_up; counter_near = omega arith; apart = r.apart; number_near = omega arith }

-- an act that is done, where the chip is on
does : (a : Act) {p : Places} {s : Side} {m : Marks} {ns : List ℕ} {t : ℕ × ℕ} {k : ℕ} → Runs p s m ns t k → Inv (doing (record { places = p; live = Some (s, m) }) a (Some (s, m))) (given_by a (Some (s, m)) ns) (told_by a (Some (s, m)) t) k
does Counting {p} {s} {m} {ns} {t} {k} r = by (ltb m.counter (2 ^ 63)) refl
  where
    by : (b : Bool) → ltb m.counter (2 ^ 63) ≡ b → Inv (cond b (written (record { places = p; live = Some (s, m) }) Counting s m) (record { places = p; live = Some (s, m) })) ns (cond b (suc m.counter, 0) t) k
    by true e = rests _ (inr refl) (counts r e (omega arith) (omega arith))
    by false e = rests _ (inr refl) r
does Closing {p} {s} {m} {ns} {t} {k} r = by (ltb m.number (2 ^ 63)) refl
  where
    by : (b : Bool) → ltb m.number (2 ^ 63) ≡ b → Inv (cond b (written (record { places = p; live = Some (s, m) }) Closing s m) (record { places = p; live = Some (s, m) })) (cond b (m.number ∷ ns) ns) t k
    by true e = let near : m.number ≤ length ns + k = r.number_near in rests _ (inr refl) (closes r e (omega arith, r.apart) (omega arith))
    by false e = rests _ (inr refl) r

-- how many closings an act that is cut adds
abbrev cut_more : Act → ℕ → ℕ
cut_more Counting k = k
cut_more Closing k = suc k

-- an act that is cut, where the chip is on
cuts : (a : Act) (q : List ℕ) {p : Places} {s : Side} {m : Marks} {ns : List ℕ} {t : ℕ × ℕ} {k : ℕ} → Runs p s m ns t k → CutLeaves (record { places = p; live = Some (s, m) }) a q (Some (s, m)) → Inv (cutting (record { places = p; live = Some (s, m) }) a q (Some (s, m))) ns (cut_by a (Some (s, m)) t) (cut_more a k)
cuts Counting q {p} {s} {m} {ns} {t} {k} r left = by (ltb m.counter (2 ^ 63)) refl left
  where
    by : (b : Bool) → ltb m.counter (2 ^ 63) ≡ b → ((q ≡ at_side (other s) p) ⊎ (q ≡ place_of (next Counting m))) ⊎ (fits q ≡ false) → Inv (record { places = cond b (with_place (other s) q p) p; live = None }) ns (t.0, suc t.1) k
    by false e _ = rests _ (inl refl) (stays (suc t.1) k (omega arith) (omega arith) r.good r)
    by true e (inl (inl old)) = rests _ (inl refl) (stays (suc t.1) k (omega arith) (omega arith) (good_same p s m q r.good old) r)
    by true e (inl (inr new)) = let up : m.counter ≤ t.0 + t.1 = r.counter_near in let low : t.0 ≤ m.counter = r.counter_up in subst (λ z. Inv (record { places = with_place (other s) z p; live = None }) ns (t.0, suc t.1) k) (sym new) (rests _ (inl refl) (counts r e (omega arith) (omega arith)))
    by true e (inr junk) = rests _ (inl refl) (stays (suc t.1) k (omega arith) (omega arith) (good_junk p s m q r.good (held_is q false junk)) r)
cuts Closing q {p} {s} {m} {ns} {t} {k} r left = by (ltb m.number (2 ^ 63)) refl left
  where
    by : (b : Bool) → ltb m.number (2 ^ 63) ≡ b → ((q ≡ at_side (other s) p) ⊎ (q ≡ place_of (next Closing m))) ⊎ (fits q ≡ false) → Inv (record { places = cond b (with_place (other s) q p) p; live = None }) ns t (suc k)
    by false e _ = rests _ (inl refl) (stays t.1 (suc k) (omega arith) (omega arith) r.good r)
    by true e (inl (inl old)) = rests _ (inl refl) (stays t.1 (suc k) (omega arith) (omega arith) (good_same p s m q r.good old) r)
    by true e (inl (inr new)) = let near : m.number ≤ length ns + k = r.number_near in subst (λ z. Inv (record { places = with_place (other s) z p; live = None }) ns t (suc k)) (sym new) (rests _ (inl refl) (closes r e (falling_more m.number (suc m.number) ns (omega arith) r.apart) (omega arith)))
    by true e (inr junk) = rests _ (inl refl) (stays t.1 (suc k) (omega arith) (omega arith) (good_junk p s m q r.good (held_is q false junk)) r)

-- ---- any event

doing_on : (a : Act) (p : Places) (l : Option (Side × Marks)) {ns : List ℕ} {t : ℕ × ℕ} {k : ℕ} → Inv (record { places = p; live = l }) ns t k → Inv (doing (record { places = p; live = l }) a l) (given_by a l ns) (told_by a l t) k
doing_on a p None i = i
doing_on a p (Some (s, m)) {ns} {t} {k} i = by i.live_is
  where
    by : (◌≡◌ {A = Option (Side × Marks)} (Some (s, m)) None) ⊎ (◌≡◌ {A = Option (Side × Marks)} (Some (s, m)) (Some (i.side, i.marks))) → Inv (doing (record { places = p; live = Some (s, m) }) a (Some (s, m))) (given_by a (Some (s, m)) ns) (told_by a (Some (s, m)) t) k
    by (inl e) = absurd cc
    by (inr e) =
        let sides : ◌≡◌ {A = Side × Marks} (s, m) (i.side, i.marks) = cc in
        does a (subst (λ z. Runs p z.0 z.1 ns t k) (sym sides) i.runs)

cutting_on : (a : Act) (q : List ℕ) (p : Places) (l : Option (Side × Marks)) {ns : List ℕ} {t : ℕ × ℕ} {k : ℕ} → Inv (record { places = p; live = l }) ns t k → CutLeaves (record { places = p; live = l }) a q l → Inv (cutting (record { places = p; live = l }) a q l) ns (cut_by a l t) (cut_more a k)
cutting_on a q p None {ns} {t} {k} i left = rests _ (inl refl) (stays t.1 (cut_more a k) (omega arith) (more a) i.runs.good i.runs)
  where
    more : (a : Act) → k ≤ cut_more a k
    more Counting = omega arith
    more Closing = omega arith
cutting_on a q p (Some (s, m)) {ns} {t} {k} i left = by i.live_is
  where
    by : (◌≡◌ {A = Option (Side × Marks)} (Some (s, m)) None) ⊎ (◌≡◌ {A = Option (Side × Marks)} (Some (s, m)) (Some (i.side, i.marks))) → Inv (cutting (record { places = p; live = Some (s, m) }) a q (Some (s, m))) ns (cut_by a (Some (s, m)) t) (cut_more a k)
    by (inl e) = absurd cc
    by (inr e) =
        let sides : ◌≡◌ {A = Side × Marks} (s, m) (i.side, i.marks) = cc in
        cuts a q (subst (λ z. Runs p z.0 z.1 ns t k) (sym sides) i.runs) left

-- ---- any events

along : (es : List Event) (c : Chip) (ns : List ℕ) (t : ℕ × ℕ) (k : ℕ) → Inv c ns t k → AllLeave c es → Inv (finally c es) (given c es ns) (told c es t) (k + closings_cut es)
along [] c ns t k i h = subst (λ n. Inv c ns t n) (omega arith) i
along (On ∷ es) c ns t k i h = along es (after c On) ns t k (on i) h.1
along (Does a ∷ es) c ns t k i h = along es (after c (Does a)) (given_by a c.live ns) (told_by a c.live t) k (doing_on a c.places c.live i) h.1
along (Cut Counting q ∷ es) c ns t k i h = along es (after c (Cut Counting q)) ns (cut_by Counting c.live t) k (cutting_on Counting q c.places c.live i h.0) h.1
along (Cut Closing q ∷ es) c ns t k i h = subst (λ n. Inv (finally c (Cut Closing q ∷ es)) (given c (Cut Closing q ∷ es) ns) (told c (Cut Closing q ∷ es) t) n) (omega arith) (along es (after c (Cut Closing q)) ns (cut_by Closing c.live t) (suc k) (cutting_on Closing q c.places c.live i h.0) h.1)

begins : Inv new_chip [] (0, 0) 0
begins = rests {s = First} {m = record { counter = 0; number = 0 }} _ (inl refl) (record { good = record { here = zeros; there = inr (record { counter = 0; number = 0 }, zeros, omega arith, λ e. absurd (grind arith)) }; counter_bound = omega arith; number_bound = omega arith; counter_up = omega arith; counter_near = omega arith; apart = tt; number_near = omega arith })
  where
    zeros : held (place_of (record { counter = 0; number = 0 })) ≡ Some (record { counter = 0; number = 0 })
    zeros = held_place (record { counter = 0; number = 0 }) (omega arith) (omega arith)

pub survives : Survives
survives es h =
    let i = along es new_chip [] (0, 0) 0 begins h in
    let r = i.runs in
    record { side = i.side; marks = i.marks; fitting = latest_good _ i.side i.marks r.good; counter_up = r.counter_up; counter_near = r.counter_near; apart = r.apart; number_near = subst (λ n. i.marks.number ≤ length (given new_chip es []) + n) (omega arith) r.number_near }
