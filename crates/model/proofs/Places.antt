-- A function that was changed at one place.
use mathlib.Core.Path.{◌≡◌, refl, sym, ap, subst, fun_ext}
use mathlib.Core.Bool.{Bool, true, false, cond}
use Prim.Native.Nat.{ℕ}
use lib.Dec.{T, eqb, eqb→eq, eqb_refl}
use Rattle.model.specs.Effect.{at}

eqb_same : (a : ℕ) → eqb a a ≡ true
eqb_same a = go (eqb a a) (eqb_refl a)
  where
    go : (b : Bool) → T b → b ≡ true
    go true t = refl
    go false t = absurd t

pub at_same : {A : Type 0} (a : ℕ) (x : A) (f : ℕ → A) → at a x f a ≡ x
at_same a x f = ap (λ b. cond b x (f a)) (eqb_same a)

-- what holds of x at the place a, and of all that stands elsewhere, holds everywhere
pub at_all : {A : Type 0} (P : ℕ → A → Type 0) (a : ℕ) (x : A) (f : ℕ → A) → P a x → ((j : ℕ) → (j ≡ a → ⊥) → P j (f j)) → (j : ℕ) → P j (at a x f j)
at_all {A} P a x f new old j = go (eqb j a) refl
  where
    go : (b : Bool) → eqb j a ≡ b → P j (cond b x (f j))
    go true e = subst (λ k. P k x) (sym (eqb→eq j a (subst (λ b. T b) (sym e) tt))) new
    go false e = old j (λ s. absurd (subst (λ b. T b) e (subst (λ k. T (eqb j k)) s (eqb_refl j))))

-- where the change leaves what g reads as it was, g reads the same everywhere
pub at_unread : {A B : Type 0} (g : A → B) (a : ℕ) (x : A) (f : ℕ → A) → g x ≡ g (f a) → ◌≡◌ {A = ℕ → B} (λ j. g (at a x f j)) (λ j. g (f j))
at_unread g a x f e = fun_ext (at_all (λ j y. g y ≡ g (f j)) a x f e (λ j _. refl))

-- elsewhere nothing changed
pub at_other : {A : Type 0} (a : ℕ) (x : A) (f : ℕ → A) (j : ℕ) → (j ≡ a → ⊥) → at a x f j ≡ f j
at_other {A} a x f j other = at_all (λ k y. (k ≡ a → ⊥) → y ≡ f k) a x f (λ same. absurd (same refl)) (λ k _ _. refl) j other
