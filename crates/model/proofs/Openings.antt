-- The promises on closing and opening, counters, numbers and registers.
use mathlib.Core.Path.{◌≡◌, refl, sym, ap, subst, ◌∙◌}
use mathlib.Core.Bool.{Bool, true, false, true≢false}
use mathlib.Core.Logic.{◌⊎◌, inl, inr}
use mathlib.Core.List.Memᴰ
use mathlib.Core.List.{◌∷◌, Memᴰ}
use Prim.Native.Nat.{ℕ, ◌≤◌, ◌<◌}
use native.Mathlib.Omega.{arith}
use Rattle.model.specs.Term.{Derives, has}
use Rattle.model.specs.World.{Programs, Target, Nowhere, Thing, Opening, World, all_good}
use Rattle.model.specs.Effect.{with_thing, counted, opening, made}
use Rattle.model.specs.Step.{Opens, counts, closes, closes_given, opens, opens_told}
use Rattle.model.specs.Run.{Run, here, onward}
use Rattle.model.specs.Promise.{Can, Fits, Closes, Openings, Counters, Numbers, Registers}
use Rattle.model.proofs.Lists.{old_or_new, Apart, apart_middle, falling_apart}
use Rattle.model.proofs.Places.{at_same}
use Rattle.model.proofs.Machines.{moves, sound}
use Rattle.model.proofs.History.{history}
use Rattle.model.proofs.Moments.{all_along, closed_along, counter_along}
use Rattle.model.proofs.Secrets.{knows}

-- ---- closing and opening

-- chip a gave out x: that is closing it
abbrev closing : (w v : World) (a : ℕ) (r : Target) (x : Thing) → v.machines a ≡ with_thing x (w.machines a) → x.target ≡ r → x.counter ≡ (w.machines a).counter → Closes a r w v
closing w v a r x e for same =
    record { thing = x; added = ap (λ m. m.closed) e; target_is = for; counter_is = same; ran_stays = ap (λ m. m.ran) e; register_stays = ap (λ m. m.register) e; counter_stays = ap (λ m. m.counter) e }

openable : {pr : Programs} {k : ℕ} {w : World} (l : Run pr k made w) (a : ℕ) (x : Thing) → Fits x (w.machines a) → Opens a x w
openable l a x f = record { given_out = f.there; at_hand = (knows l).handed_out a x f.there; target_fits = f.register_fits; counter_fits = f.counter_fits }

opens_it : {pr : Programs} {k : ℕ} {w : World} (l : Run pr k made w) (a : ℕ) (x : Thing) → Fits x (w.machines a) → Can pr w 1 (λ v. (v.opened ≡ opening a x ∷ w.opened) × (v.machines ≡ w.machines) × (all_good pr.good (w.machines a).ran ≡ false → Derives v.heard x.what))
opens_it {pr} {w = w} l a x f = go (all_good pr.good (w.machines a).ran) refl
  where
    go : (b : Bool) → all_good pr.good (w.machines a).ran ≡ b → Can pr w 1 (λ v. (v.opened ≡ opening a x ∷ w.opened) × (v.machines ≡ w.machines) × (all_good pr.good (w.machines a).ran ≡ false → Derives v.heard x.what))
    go true e = (_, onward here (opens w a x (openable l a x f) e), (refl, refl, λ t. absurd (true≢false (sym e ∙ t))))
    go false e = (_, onward here (opens_told w a x (openable l a x f) e), (refl, refl, λ _. has (Memᴰ.head refl)))

nowhere_shut : {pr : Programs} {k : ℕ} {w : World} → Run pr k made w → (p : Opening) → Memᴰ p w.opened → p.thing.target ≡ Nowhere → ⊥
nowhere_shut l p m = all_along (λ u. Memᴰ p u.opened → p.thing.target ≡ Nowhere → ⊥) (λ w v s old m e. go w v e old (old_or_new (history s).opened m)) l (λ m _. Memᴰ.not-nil m) m
  where
    go : (w v : World) → p.thing.target ≡ Nowhere → (Memᴰ p w.opened → p.thing.target ≡ Nowhere → ⊥) → Memᴰ p w.opened ⊎ ((q : Opening) × (p ≡ q) × Fits q.thing (w.machines q.chip)) → ⊥
    go w v e old (inl m) = old m e
    go w v e old (inr (q, same, f)) = let contrary : ◌≡◌ {A = ℕ} 0 1 = cc (e, f.register_fits, same) in absurd (omega arith)

pub openings : {pr : Programs} {k : ℕ} {w : World} → Run pr k made w → Openings pr w
openings {pr} {w = w} l =
    record {
      closes_secret = λ a r. (_, onward here (closes w a r), (closing w _ a r _ (at_same a _ w.machines) refl refl, refl));
      closes_given = λ a r t d. (_, onward here (closes_given w a r t d), (closing w _ a r _ (at_same a _ w.machines) refl refl, refl));
      closes_only = λ v s a. (moves s a).closed_more;
      opens_fitting = opens_it l;
      opens_only = λ v s. (history s).opened;
      never_nowhere = nowhere_shut l;
    }

-- ---- counters and numbers

-- what is opened from now on was closed under a counter not below the one of now
not_before : {pr : Programs} {k : ℕ} {w v : World} → Run pr k w v → (p : Opening) → Memᴰ p v.opened → Memᴰ p w.opened ⊎ ((w.machines p.chip).counter ≤ p.thing.counter)
not_before here p m = inl m
not_before {w = w} (onward {u = u} l s) p m = go (old_or_new (history s).opened m) (not_before l p)
  where
    go : Memᴰ p u.opened ⊎ ((q : Opening) × (p ≡ q) × Fits q.thing (u.machines q.chip)) → (Memᴰ p u.opened → Memᴰ p w.opened ⊎ ((w.machines p.chip).counter ≤ p.thing.counter)) → Memᴰ p w.opened ⊎ ((w.machines p.chip).counter ≤ p.thing.counter)
    go (inl h) old = old h
    go (inr (q, e, f)) old =
        let up : (w.machines q.chip).counter ≤ (u.machines q.chip).counter = counter_along q.chip _ l (omega arith) in
        let fits : q.thing.counter ≡ (u.machines q.chip).counter = f.counter_fits in
        let enough : (w.machines q.chip).counter ≤ q.thing.counter = omega arith in
        inr (subst (λ o. (w.machines o.chip).counter ≤ o.thing.counter) (sym e) enough)

pub counters : {pr : Programs} {k : ℕ} {w : World} → Run pr k made w → Counters pr w
counters {w = w} l =
    record {
      counts_up = λ a i v r. counter_along a _ r (omega arith);
      no_return = λ i v r. not_before r;
      outdates = λ a. (_, onward here (counts w a), ((λ x m. let old : x.counter ≤ (w.machines a).counter = (sound l a).things.below x m in subst (λ y. x.counter < y.counter) (sym (at_same a (counted (w.machines a)) w.machines)) (omega arith)), ap (λ y. y.ran) (at_same a _ w.machines)));
    }

pub numbers : {pr : Programs} {k : ℕ} {w : World} → Run pr k made w → Numbers pr w
numbers {w = w} l =
    record {
      numbered = λ a x newer older e y m same. apart_middle (λ x. x.number) newer older x (subst (λ xs. Apart (λ x. x.number) xs) e (falling_apart (λ x. x.number) _ _ (sound l a).things.falling)) m same;
      stays = λ a i v r x m. closed_along a x r m;
    }

-- ---- registers

pub registers : {pr : Programs} {k : ℕ} {w : World} → Run pr k made w → Registers pr w
registers l = record { good_told = λ a. (sound l a).rows.good_told; register_true = λ a. (sound l a).rows.register_true; first_runs = λ a. (sound l a).rows.begun }
