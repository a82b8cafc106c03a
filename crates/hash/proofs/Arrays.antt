-- Arrays that calls of a function gave, place by place.
use Rattle.std.proofs.Common.{◌≡◌, ℕ, zero, suc, ◌+◌, ◌<◌, ◌≤◌, Bool, true, false, eqb, List, length, get_or, map, sym, refl, ◌∙◌, subst, arith}
use lib.ListN.{length-map}
use Rattle.std.proofs.lemmas.List.{ext_get_or, get_or-map}
use Rattle.std.proofs.lemmas.Bool.{eqb-false, eqb-true}
use Rattle.std.specs.Array.{IsFromFnResult, IsFromFnResultFrom, IsMapOf, MapsFrom}
use denote.Param.Members.{Mut, Called}

-- a call of f at x gives y, and leaves f as it was
abbrev pub Gives : {F A B : Type 0} → Mut F (A × Unit {0}) B → F → A → B → Type 0
Gives {F} {A} {B} g f x y = (r : B) (q : F) → Called g f (x, tt) r q → (q ≡ f) × (r ≡ y)

made_from
    : {F B : Type 0} (g : Mut F (ℕ × Unit {0}) B) (f : F) (h : ℕ → B) (ys : List B) (i n : ℕ)
    → ((j : ℕ) → j < i + n → Gives g f j (h j)) → IsFromFnResultFrom g f ys i n → (j : ℕ) (d : B) → i ≤ j → j < i + n → get_or ys j d ≡ h j
made_from g f h ys i zero acts made j d l k = absurd (omega arith)
made_from g f h ys i (suc n) acts made j d l k =
    let a = acts i (omega arith) made.1 made.0 made.3 in
    by (eqb i j) refl a.1
    (λ (o : i < j). made_from g f h ys (i + 1) n (λ m t. acts m (omega arith)) (subst (λ p. IsFromFnResultFrom g p ys (i + 1) n) a.0 made.4) j d (omega arith) (omega arith))
  where
    by : (b : Bool) → eqb i j ≡ b → made.1 ≡ h i → (i < j → get_or ys j d ≡ h j) → get_or ys j d ≡ h j
    by true e y rest = subst (λ m. get_or ys m d ≡ h m) (eqb-true i j e) (made.2.1 d ∙ y)
    by false e y rest = let s = eqb-false i j e in rest (omega arith)

pub made
    : {F B : Type 0} (g : Mut F (ℕ × Unit {0}) B) (f : F) (h : ℕ → B) (ys : List B) (n : ℕ)
    → ((i : ℕ) → i < n → Gives g f i (h i)) → IsFromFnResult g f ys n → (i : ℕ) (d : B) → i < n → get_or ys i d ≡ h i
made g f h ys n acts r i d l = made_from g f h ys 0 n (λ j k. acts j (omega arith)) r.each i d (omega arith) (omega arith)

mapped_from
    : {F A B : Type 0} (g : Mut F (A × Unit {0}) B) (f : F) (h : A → B) (xs : List A) (ys : List B) (i n : ℕ) (d : A)
    → ((j : ℕ) → j < i + n → Gives g f (get_or xs j d) (h (get_or xs j d))) → MapsFrom g f xs ys i n
    → (j : ℕ) (e : B) → i ≤ j → j < i + n → get_or ys j e ≡ h (get_or xs j d)
mapped_from g f h xs ys i zero d acts made j e l k = absurd (omega arith)
mapped_from g f h xs ys i (suc n) d acts made j e l k =
    let x = made.3.1 d in
    let a = acts i (omega arith) made.2 made.0 (subst (λ z. Called g f (z, tt) made.2 made.0) (sym x) made.5) in
    by (eqb i j) refl a.1
    (λ (o : i < j). mapped_from g f h xs ys (i + 1) n d (λ m t. acts m (omega arith)) (subst (λ p. MapsFrom g p xs ys (i + 1) n) a.0 made.6) j e (omega arith) (omega arith))
  where
    by : (b : Bool) → eqb i j ≡ b → made.2 ≡ h (get_or xs i d) → (i < j → get_or ys j e ≡ h (get_or xs j d)) → get_or ys j e ≡ h (get_or xs j d)
    by true t y rest = subst (λ m. get_or ys m e ≡ h (get_or xs m d)) (eqb-true i j t) (made.4.1 e ∙ y)
    by false t y rest = let s = eqb-false i j t in rest (omega arith)

pub mapped
    : {F A B : Type 0} (g : Mut F (A × Unit {0}) B) (f : F) (h : A → B) (xs : List A) (ys : List B) (n : ℕ) (d : A) (e : B)
    → ((i : ℕ) → i < n → Gives g f (get_or xs i d) (h (get_or xs i d))) → length xs ≡ n → IsMapOf g f xs ys n → ys ≡ map h xs
mapped g f h xs ys n d e acts l r =
    ext_get_or e ys (map h xs) (r.long ∙ sym (length-map xs h ∙ l))
    (λ i k. let m : i < n = omega (arith, r.long) in mapped_from g f h xs ys 0 n d (λ j t. acts j (omega arith)) r.each i e (omega arith) (omega arith) ∙ sym (get_or-map h xs i d e (omega arith)))
