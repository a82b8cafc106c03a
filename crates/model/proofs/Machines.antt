-- What a step does to one machine, and what holds of every machine.
use mathlib.Core.Path.{◌≡◌, refl, sym, ap, subst, ◌∙◌}
use mathlib.Core.Bool.{Bool, true, false, true≢false, and-eq-true_iff}
use mathlib.Core.Logic.{◌⊎◌, inl, inr}
use mathlib.Core.List.Memᴰ
use mathlib.Core.List.{List, [], ◌∷◌, Memᴰ}
use Prim.Native.Nat.{ℕ, ◌≤◌, ◌<◌}
use native.Mathlib.Omega.{arith}
use Rattle.model.specs.Term.{Digest}
use Rattle.model.specs.World.{Programs, Thing, Machine, World, all_good}
use Rattle.model.specs.Effect.{at, made}
use Rattle.model.specs.Step.{Step, switches, boots, loads, puts_only, loads_only, signs, counts, closes, closes_given, passes_over, opens, opens_told, takes_chip, takes_list, asks, puts_out, falls, accepts}
use Rattle.model.specs.Run.{Run, here, onward}
use Rattle.model.specs.Promise.{Begins, OneMore, Next}
use Rattle.model.proofs.Lists.{Falling, falling_up}
use Rattle.model.proofs.Places.{at_all}

-- ---- rows of good programs

pub good_rest : (g : Digest → Bool) (p : Digest) (ps : List Digest) → all_good g (p ∷ ps) ≡ true → all_good g ps ≡ true
unfolding all_good
good_rest g p ps e = ((and-eq-true_iff (g p) _).0 e).1

good_none : (g : Digest → Bool) → all_good g [] ≡ true
unfolding all_good
good_none g = refl

-- both are empty, or both begin with the first program
abbrev Begun : Programs → List Digest → List Digest → Type 0
Begun pr ran register = ((ran ≡ []) × (register ≡ [])) ⊎ (Begins pr ran × Begins pr register)

begins_more : (pr : Programs) {ps : List Digest} (p : Digest) → Begins pr ps → Begins pr (p ∷ ps)
begins_more pr p (r, e) = (p ∷ r, ap (λ l. p ∷ l) e)

-- ---- what holds of every machine

-- of its programs
pub record Truthful (pr : Programs) (ran register : List Digest) : Type 0 where
  pub good_told : all_good pr.good ran ≡ true → register ≡ ran
  pub register_true : all_good pr.good register ≡ true → ran ≡ register
  pub begun : Begun pr ran register

-- of what it closed
pub record Orderly (counter number : ℕ) (closed : List Thing) : Type 0 where
  pub below : (x : Thing) → Memᴰ x closed → x.counter ≤ counter
  pub falling : Falling (λ x. x.number) number closed

pub record Sound (pr : Programs) (m : Machine) : Type 0 where
  pub rows : Truthful pr m.ran m.register
  pub things : Orderly m.counter m.number m.closed

truthful_none : (pr : Programs) → Truthful pr [] []
truthful_none pr = record { good_told = λ _. refl; register_true = λ _. refl; begun = inl (refl, refl) }

truthful_load : (pr : Programs) (p : Digest) (ran register : List Digest) → Begun pr (p ∷ ran) (p ∷ register) → Truthful pr ran register → Truthful pr (p ∷ ran) (p ∷ register)
truthful_load pr p ran register b t =
    record { good_told = λ e. ap (λ l. p ∷ l) (t.good_told (good_rest pr.good p ran e)); register_true = λ e. ap (λ l. p ∷ l) (t.register_true (good_rest pr.good p register e)); begun = b }

not_both : {b : Bool} {A : Type 0} → b ≡ false → b ≡ true → A
not_both no-good good = absurd (true≢false (sym good ∙ no-good))

-- where a bad program was loaded something runs, and the register tells of a bad one too
tainted_begun : (pr : Programs) (ran register : List Digest) → all_good pr.good ran ≡ false → Begun pr ran register → Begins pr ran × Begins pr register
tainted_begun pr ran register t (inl (e, f)) = not_both t (ap (all_good pr.good) e ∙ good_none pr.good)
tainted_begun pr ran register t (inr b) = b

tainted_told : {pr : Programs} {ran register : List Digest} {A : Type 0} → Truthful pr ran register → all_good pr.good ran ≡ false → all_good pr.good register ≡ true → A
tainted_told {pr} s t e = not_both t (ap (all_good pr.good) (s.register_true e) ∙ e)

-- a program is put in and not loaded, or loaded and not put in, where a bad one was loaded
truthful_put : (pr : Programs) (p : Digest) (ran register : List Digest) → all_good pr.good ran ≡ false → Truthful pr ran register → Truthful pr ran (p ∷ register)
truthful_put pr p ran register t s =
    let b = tainted_begun pr ran register t s.begun in
    record { good_told = λ c. not_both t c; register_true = λ c. tainted_told s t (good_rest pr.good p register c); begun = inr (b.0, begins_more pr p b.1) }

truthful_run : (pr : Programs) (p : Digest) (ran register : List Digest) → all_good pr.good ran ≡ false → Truthful pr ran register → Truthful pr (p ∷ ran) register
truthful_run pr p ran register t s =
    let b = tainted_begun pr ran register t s.begun in
    record { good_told = λ c. not_both t (good_rest pr.good p ran c); register_true = λ c. tainted_told s t c; begun = inr (begins_more pr p b.0, b.1) }

-- the first program is loaded where nothing ran, and others where something does
begun_first : (pr : Programs) {ran register : List Digest} → ran ≡ [] → Truthful pr ran register → Begun pr (pr.first ∷ ran) (pr.first ∷ register)
begun_first pr e s = inr (([], ap (λ l. pr.first ∷ l) e), ([], ap (λ l. pr.first ∷ l) (s.good_told (ap (all_good pr.good) e ∙ good_none pr.good) ∙ e)))

begun_more : (pr : Programs) (p : Digest) {ran register : List Digest} {q : Digest} {qs : List Digest} → ran ≡ q ∷ qs → Truthful pr ran register → Begun pr (p ∷ ran) (p ∷ register)
begun_more pr p {ran} {register} {q} {qs} e s = go s.begun
  where
    go : Begun pr ran register → Begun pr (p ∷ ran) (p ∷ register)
    go (inl (none, _)) = let contrary : ◌≡◌ {A = ℕ} 0 1 = cc in absurd (omega arith)
    go (inr (a, b)) = inr (begins_more pr p a, begins_more pr p b)

-- ---- what a step does to one machine

-- from m to n: the counter does not fall, at most one thing is closed, under the number and the counter of m, and what holds of every machine goes on to hold
pub record Moves (pr : Programs) (m n : Machine) : Type 0 where
  pub counter_up : m.counter ≤ n.counter
  pub closed_more : OneMore (Next m) m.closed n.closed
  pub stays_orderly : Orderly m.counter m.number m.closed → Orderly n.counter n.number n.closed
  pub stays_truthful : Truthful pr m.ran m.register → Truthful pr n.ran n.register

-- nothing is closed
quiet : {pr : Programs} {m n : Machine} → m.counter ≤ n.counter → m.number ≤ n.number → n.closed ≡ m.closed → (Truthful pr m.ran m.register → Truthful pr n.ran n.register) → Moves pr m n
quiet {pr} {m} {n} up on same truth =
    record { counter_up = up; closed_more = inl same; stays_orderly = λ o. record { below = λ x h. low o x (subst (λ xs. Memᴰ x xs) same h); falling = subst (λ xs. Falling (λ x. x.number) n.number xs) (sym same) (falling_up (λ x. x.number) _ _ m.closed on o.falling) }; stays_truthful = truth }
  where
    low : Orderly m.counter m.number m.closed → (x : Thing) → Memᴰ x m.closed → x.counter ≤ n.counter
    low o x h = let old : x.counter ≤ m.counter = o.below x h in omega arith

stands : {pr : Programs} {m : Machine} → Moves pr m m
stands = quiet (omega arith) (omega arith) refl (λ s. s)

-- x is closed, and nothing else changes but the number
closing : {pr : Programs} {m n : Machine} (x : Thing) → m.counter ≡ n.counter → m.number < n.number → n.closed ≡ x ∷ m.closed → Next m x → (Truthful pr m.ran m.register → Truthful pr n.ran n.register) → Moves pr m n
closing {pr} {m} {n} x same on more next truth =
    record { counter_up = omega arith; closed_more = inr (x, more, next); stays_orderly = λ o. record { below = λ y h. low o y (subst (λ xs. Memᴰ y xs) more h); falling = subst (λ xs. Falling (λ x. x.number) n.number xs) (sym more) (omega (arith, next.number_is), falling_up (λ x. x.number) _ _ m.closed (omega (arith, next.number_is)) o.falling) }; stays_truthful = truth }
  where
    low : Orderly m.counter m.number m.closed → (y : Thing) → Memᴰ y (x ∷ m.closed) → y.counter ≤ n.counter
    low o y (Memᴰ.head e) = let is : y.counter ≡ x.counter = ap (λ z. z.counter) e in omega (arith, next.counter_is)
    low o y (Memᴰ.tail h) = let old : y.counter ≤ m.counter = o.below y h in omega arith

-- the machine at a moves, and the others stand
one_moves : {pr : Programs} (f : ℕ → Machine) (a : ℕ) (m : Machine) → Moves pr (f a) m → (j : ℕ) → Moves pr (f j) (at a m f j)
one_moves {pr} f a m h = at_all (λ j n. Moves pr (f j) n) a m f h (λ j _. stands)

pub moves : {pr : Programs} {w v : World} → Step pr w v → (a : ℕ) → Moves pr (w.machines a) (v.machines a)
moves {pr} (switches w a) = one_moves w.machines a _ (quiet (omega arith) (omega arith) refl (λ _. truthful_none pr))
moves {pr} (boots w a e) = one_moves w.machines a _ (quiet (omega arith) (omega arith) refl (λ s. truthful_load pr _ _ _ (begun_first pr e s) s))
moves {pr} (loads w a p q qs e) = one_moves w.machines a _ (quiet (omega arith) (omega arith) refl (λ s. truthful_load pr _ _ _ (begun_more pr p e s) s))
moves {pr} (puts_only w a p t) = one_moves w.machines a _ (quiet (omega arith) (omega arith) refl (truthful_put pr p _ _ t))
moves {pr} (loads_only w a p t) = one_moves w.machines a _ (quiet (omega arith) (omega arith) refl (truthful_run pr p _ _ t))
moves (signs w a t d) = λ _. stands
moves (counts w a) = one_moves w.machines a _ (quiet (omega arith) (omega arith) refl (λ s. s))
moves (closes w a r) = one_moves w.machines a _ (closing _ refl (omega arith) refl (record { number_is = refl; counter_is = refl }) (λ s. s))
moves (closes_given w a r t d) = one_moves w.machines a _ (closing _ refl (omega arith) refl (record { number_is = refl; counter_is = refl }) (λ s. s))
moves (passes_over w a) = one_moves w.machines a _ (quiet (omega arith) (omega arith) refl (λ s. s))
moves (opens w a x o c) = λ _. stands
moves (opens_told w a x o t) = λ _. stands
moves (takes_chip w j a) = λ _. stands
moves (takes_list w j r) = λ _. stands
moves (asks w j a k) = λ _. stands
moves (puts_out w j newer older q e) = λ _. stands
moves (falls w j) = λ _. stands
moves (accepts w j newer older q r e k h d) = λ _. stands

pub sound : {pr : Programs} {k : ℕ} {w : World} → Run pr k made w → (a : ℕ) → Sound pr (w.machines a)
sound {pr} here a = record { rows = truthful_none pr; things = record { below = λ x m. absurd (Memᴰ.not-nil m); falling = tt } }
sound (onward l s) a = record { rows = (moves s a).stays_truthful (sound l a).rows; things = (moves s a).stays_orderly (sound l a).things }
