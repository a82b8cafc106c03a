-- What the library's searches find is what the searches of the contracts find.
use Rattle.std.proofs.Common.{◌≡◌, ℕ, suc, ◌+◌, ◌-◌, ◌<◌, ◌≤◌, Bool, true, false, cond, T, eqb, List, [], ◌∷◌, length, get_or, ◌||◌, Some, None, sym, refl, ap, ◌∙◌, subst, arith, eqb→eq}
use mathlib.Core.List.{Memᴰ}
use Rattle.std.specs.List.{list_any, find, position_from}
use Rattle.verifier.specs.Searches.{some, seek, place}

some_here : {A : Type 0} (p : A → Bool) (x : A) (xs : List A) → some p (x ∷ xs) ≡ cond (p x) true (some p xs)
unfolding some
some_here p x xs = refl

some_nil : {A : Type 0} (p : A → Bool) → some p [] ≡ false
unfolding some
some_nil p = refl

or_cond : (b r : Bool) → b || r ≡ cond b true r
or_cond true r = refl
or_cond false r = refl

pub some_any : {A : Type 0} (p q : A → Bool) → ((x : A) → q x ≡ p x) → (xs : List A) → list_any q xs ≡ some p xs
some_any p q h [] = sym (some_nil p)
some_any p q h (x ∷ xs) = or_cond (q x) (list_any q xs) ∙ (λ i. cond (h x i) true (some_any p q h xs i)) ∙ sym (some_here p x xs)

seek_here : {A : Type 0} (p : A → Bool) (x : A) (xs : List A) → seek p (x ∷ xs) ≡ cond (p x) (Some x) (seek p xs)
unfolding seek
seek_here p x xs = refl

seek_nil : {A : Type 0} (p : A → Bool) → seek p [] ≡ None
unfolding seek
seek_nil p = refl

pub seek_find : {A : Type 0} (p q : A → Bool) → ((x : A) → q x ≡ p x) → (xs : List A) → find q xs ≡ seek p xs
seek_find p q h [] = sym (seek_nil p)
seek_find p q h (x ∷ xs) = (λ i. cond (h x i) (Some x) (seek_find p q h xs i)) ∙ sym (seek_here p x xs)

place_here : {A : Type 0} (p : A → Bool) (k : ℕ) (x : A) (xs : List A) → place p k (x ∷ xs) ≡ cond (p x) (Some k) (place p (k + 1) xs)
unfolding place
place_here p k x xs = refl

place_nil : {A : Type 0} (p : A → Bool) (k : ℕ) → place p k [] ≡ None
unfolding place
place_nil p k = refl

pub place_position : {A : Type 0} (p q : A → Bool) → ((x : A) → q x ≡ p x) → (k : ℕ) (xs : List A) → position_from q k xs ≡ place p k xs
place_position p q h k [] = sym (place_nil p k)
place_position p q h k (x ∷ xs) = (λ i. cond (h x i) (Some k) (place_position p q h (k + 1) xs i)) ∙ sym (place_here p k x xs)

-- the place that is found is within the list, and what stands there passes
place_from : {A : Type 0} (p : A → Bool) (xs : List A) (n k : ℕ) (d : A) → place p n xs ≡ Some k → (n ≤ k) × (k - n < length xs) × (p (get_or xs (k - n) d) ≡ true)
place_from p [] n k d e = let z : None ≡ Some k = sym (place_nil p n) ∙ e in absurd (grind arith)
place_from {A} p (x ∷ xs) n k d e = by (p x) refl (λ h. place_from p xs (n + 1) k d h)
  where
    by : (b : Bool) → p x ≡ b → (place p (n + 1) xs ≡ Some k → (n + 1 ≤ k) × (k - (n + 1) < length xs) × (p (get_or xs (k - (n + 1)) d) ≡ true)) → (n ≤ k) × (k - n < length (x ∷ xs)) × (p (get_or (x ∷ xs) (k - n) d) ≡ true)
    by true t rest =
        let hit : Some n ≡ Some k = sym (ap (λ b. cond b (Some n) (place p (n + 1) xs)) t) ∙ sym (place_here p n x xs) ∙ e in
        let is : n ≡ k = cc in
        let none : k - n ≡ 0 = omega arith in
        (omega arith, subst (λ m. m < length (x ∷ xs)) (sym none) (omega arith), subst (λ m. p (get_or (x ∷ xs) m d) ≡ true) (sym none) t)
    by false t rest =
        let on : place p (n + 1) xs ≡ Some k = sym (ap (λ b. cond b (Some n) (place p (n + 1) xs)) t) ∙ sym (place_here p n x xs) ∙ e in
        let (low, high, passes) = rest on in
        let next : k - n ≡ suc (k - (n + 1)) = omega arith in
        (omega arith, subst (λ m. m < length (x ∷ xs)) (sym next) (omega arith), subst (λ m. p (get_or (x ∷ xs) m d) ≡ true) (sym next) passes)

pub place_below : {A : Type 0} (p : A → Bool) (x : A) (xs : List A) (k : ℕ) → place p 0 xs ≡ Some k → k < length xs
place_below p x xs k e = let (low, high, passes) = place_from p xs 0 k x e in omega arith

pub place_passes : {A : Type 0} (p : A → Bool) (xs : List A) (k : ℕ) (d : A) → place p 0 xs ≡ Some k → p (get_or xs k d) ≡ true
place_passes p xs k d e =
    let (low, high, passes) = place_from p xs 0 k d e in
    let is : k - 0 ≡ k = omega arith in
    subst (λ m. p (get_or xs m d) ≡ true) is passes

-- ---- what is found is in the list

pub some_member : (a : ℕ) (xs : List ℕ) → some (eqb a) xs ≡ true → Memᴰ a xs
some_member a [] e = let z : false ≡ true = sym (some_nil (eqb a)) ∙ e in absurd (grind arith)
some_member a (x ∷ xs) e = by (eqb a x) refl (λ h. some_member a xs h)
  where
    by : (b : Bool) → eqb a x ≡ b → (some (eqb a) xs ≡ true → Memᴰ a xs) → Memᴰ a (x ∷ xs)
    by true t rest = Memᴰ.head (eqb→eq a x (subst (λ b. T b) (sym t) tt))
    by false t rest = Memᴰ.tail (rest (sym (ap (λ b. cond b true (some (eqb a) xs)) t) ∙ sym (some_here (eqb a) x xs) ∙ e))

pub seek_member : {A : Type 0} (p : A → Bool) (xs : List A) (y : A) → seek p xs ≡ Some y → Memᴰ y xs × (p y ≡ true)
seek_member p [] y e = let z : None ≡ Some y = sym (seek_nil p) ∙ e in absurd (grind arith)
seek_member {A} p (x ∷ xs) y e = by (p x) refl (λ h. seek_member p xs y h)
  where
    by : (b : Bool) → p x ≡ b → (seek p xs ≡ Some y → Memᴰ y xs × (p y ≡ true)) → Memᴰ y (x ∷ xs) × (p y ≡ true)
    by true t rest =
        let hit : Some x ≡ Some y = sym (ap (λ b. cond b (Some x) (seek p xs)) t) ∙ sym (seek_here p x xs) ∙ e in
        let is : x ≡ y = cc in
        (Memᴰ.head (sym is), ap p (sym is) ∙ t)
    by false t rest =
        let (member, passes) = rest (sym (ap (λ b. cond b (Some x) (seek p xs)) t) ∙ sym (seek_here p x xs) ∙ e) in
        (Memᴰ.tail member, passes)
