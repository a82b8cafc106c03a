-- Lists that grow at the front, and lists whose numbers fall.
use mathlib.Core.Path.{◌≡◌, refl, sym, ap, subst, ◌∙◌}
use mathlib.Core.Logic.{◌⊎◌, inl, inr}
use mathlib.Core.List.Memᴰ
use mathlib.Core.List.{List, [], ◌∷◌, ◌++◌, Memᴰ}
use Prim.Native.Nat.{ℕ, ◌≤◌, ◌<◌}
use native.Mathlib.Omega.{arith}
use Rattle.model.specs.Promise.{OneMore}

-- ---- one more at the front

pub keeps : {A : Type 0} {P : A → Type 0} {old new : List A} {x : A} → OneMore P old new → Memᴰ x old → Memᴰ x new
keeps {x = x} (inl e) m = subst (λ l. Memᴰ x l) (sym e) m
keeps {x = x} (inr (y, e, p)) m = subst (λ l. Memᴰ x l) (sym e) (Memᴰ.tail m)

-- what is in the new list was in the old one, or is the one of which P holds
pub old_or_new : {A : Type 0} {P : A → Type 0} {old new : List A} {x : A} → OneMore P old new → Memᴰ x new → Memᴰ x old ⊎ ((y : A) × (x ≡ y) × P y)
old_or_new {x = x} (inl e) m = inl (subst (λ l. Memᴰ x l) e m)
old_or_new {A} {P} {old} {new} {x} (inr (y, e, p)) m = go (Memᴰ.cases_cons (subst (λ l. Memᴰ x l) e m))
  where
    go : (x ≡ y) ⊎ Memᴰ x old → Memᴰ x old ⊎ ((z : A) × (x ≡ z) × P z)
    go (inl s) = inr (y, s, p)
    go (inr h) = inl h

pub one_more_map : {A : Type 0} {P Q : A → Type 0} {old new : List A} → ((x : A) → P x → Q x) → OneMore P old new → OneMore Q old new
one_more_map f (inl e) = inl e
one_more_map f (inr (x, e, p)) = inr (x, e, f x p)

-- ---- one out of the middle

pub middle : {A : Type 0} (newer older : List A) (x : A) → Memᴰ x (newer ++ (x ∷ older))
middle newer older x = Memᴰ.append_right newer (Memᴰ.head refl)

pub uncut : {A : Type 0} (newer older : List A) (x : A) {y : A} → Memᴰ y (newer ++ older) → Memᴰ y (newer ++ (x ∷ older))
uncut {A} newer older x {y} m = go (Memᴰ.append_cases newer m)
  where
    go : Memᴰ y newer ⊎ Memᴰ y older → Memᴰ y (newer ++ (x ∷ older))
    go (inl h) = Memᴰ.append_left (x ∷ older) h
    go (inr h) = Memᴰ.append_right newer (Memᴰ.tail h)

-- ---- lists without repetition, by a number of each

abbrev pub Apart : {A : Type 0} → (A → ℕ) → List A → Type 0
Apart f [] = Unit {0}
Apart {A} f (x ∷ xs) = ((y : A) → Memᴰ y xs → f y ≡ f x → ⊥) × Apart f xs

pub apart_middle : {A : Type 0} (f : A → ℕ) (newer older : List A) (x : A) → Apart f (newer ++ (x ∷ older)) → {y : A} → Memᴰ y older → f y ≡ f x → ⊥
apart_middle f [] older x d {y} m e = d.0 y m e
apart_middle f (z ∷ newer) older x d {y} m e = apart_middle f newer older x d.1 m e

-- each number is below the one before it, and the first is below n
abbrev pub Falling : {A : Type 0} → (A → ℕ) → ℕ → List A → Type 0
Falling f n [] = Unit {0}
Falling f n (x ∷ xs) = (f x < n) × Falling f (f x) xs

pub falling_below : {A : Type 0} (f : A → ℕ) {y : A} (n : ℕ) {xs : List A} → Falling f n xs → Memᴰ y xs → f y < n
falling_below f n {xs = []} d m = absurd (Memᴰ.not-nil m)
falling_below f {y} n {xs = x ∷ xs} d (Memᴰ.head e) =
    let below : f x < n = d.0 in
    let same : f y ≡ f x = ap f e in
    omega arith
falling_below f {y} n {xs = x ∷ xs} d (Memᴰ.tail m) =
    let below : f x < n = d.0 in
    let rest : f y < f x = falling_below f (f x) d.1 m in
    omega arith

pub falling_up : {A : Type 0} (f : A → ℕ) (n k : ℕ) (xs : List A) → n ≤ k → Falling f n xs → Falling f k xs
falling_up f n k [] up d = tt
falling_up f n k (x ∷ xs) up d = let below : f x < n = d.0 in (omega arith, d.1)

pub falling_apart : {A : Type 0} (f : A → ℕ) (n : ℕ) (xs : List A) → Falling f n xs → Apart f xs
falling_apart f n [] d = tt
falling_apart f n (x ∷ xs) d = ((λ y m e. let below : f y < f x = falling_below f (f x) d.1 m in absurd (omega arith)), falling_apart f (f x) xs d.1)

pub falling_cut : {A : Type 0} (f : A → ℕ) (n : ℕ) (newer older : List A) (x : A) → Falling f n (newer ++ (x ∷ older)) → Falling f n (newer ++ older)
falling_cut f n [] older x d = let below : f x < n = d.0 in falling_up f (f x) n older (omega arith) d.1
falling_cut f n (z ∷ newer) older x d = (d.0, falling_cut f (f z) newer older x d.1)

-- what was cut out is not there any more
pub falling_gone : {A : Type 0} (f : A → ℕ) (n : ℕ) (newer older : List A) (x : A) → Falling f n (newer ++ (x ∷ older)) → {y : A} → Memᴰ y (newer ++ older) → f y ≡ f x → ⊥
falling_gone f n [] older x d {y} m e = (falling_apart f n (x ∷ older) d).0 y m e
falling_gone {A} f n (z ∷ newer) older x d {y} m e = go (Memᴰ.cases_cons m) (λ h. falling_gone f (f z) newer older x d.1 h e)
  where
    go : (y ≡ z) ⊎ Memᴰ y (newer ++ older) → (Memᴰ y (newer ++ older) → ⊥) → ⊥
    go (inl s) rest =
        let same : f y ≡ f z = ap f s in
        let below : f x < f z = falling_below f (f z) d.1 (middle newer older x) in
        absurd (omega arith)
    go (inr h) rest = rest h

-- two of one number are one
pub falling_same : {A : Type 0} (f : A → ℕ) {x y : A} (n : ℕ) {xs : List A} → Falling f n xs → Memᴰ x xs → Memᴰ y xs → f x ≡ f y → x ≡ y
falling_same f {x} {y} n {xs = []} d h k e = absurd (Memᴰ.not-nil h)
falling_same f {x} {y} n {xs = z ∷ xs} d (Memᴰ.head s) (Memᴰ.head t) e = s ∙ sym t
falling_same f {x} {y} n {xs = z ∷ xs} d (Memᴰ.head s) (Memᴰ.tail k) e =
    let same : f x ≡ f z = ap f s in
    let below : f y < f z = falling_below f (f z) d.1 k in
    absurd (omega arith)
falling_same f {x} {y} n {xs = z ∷ xs} d (Memᴰ.tail h) (Memᴰ.head t) e =
    let same : f y ≡ f z = ap f t in
    let below : f x < f z = falling_below f (f z) d.1 h in
    absurd (omega arith)
falling_same f {x} {y} n {xs = z ∷ xs} d (Memᴰ.tail h) (Memᴰ.tail k) e = falling_same f (f z) d.1 h k e
