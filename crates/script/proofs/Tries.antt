-- What `try_fold` comes to at options, where each call of its closure gives what a function gives.
use Rattle.std.proofs.Common.{◌≡◌, List, [], ◌∷◌, Some, None, Option, sym, ap, subst, ◌∙◌}
use denote.Param.Members.{Mut}
use Rattle.std.proofs.lemmas.Iterator.{YieldsList}
use Rattle.std.specs.ControlFlow.{continue_value}
use Rattle.std.specs.Fn.{Called}
use Rattle.std.specs.Iterator.{AlwaysYields, Yields, TryFoldsItems}
use Rattle.std.specs.List.{FoldsTo}
use Rattle.std.specs.Option.{MatchOption}

abbrev pub and_on : {A B : Type 0} → Option A → (A → Option B) → Option B
and_on None k = None
and_on (Some x) k = k x

-- h from b on, until it gives nothing
abbrev pub tried : {A B : Type 0} → (B → A → Option B) → B → List A → Option B
tried h b [] = Some b
tried h b (x ∷ xs) = and_on (h b x) (λ c. tried h c xs)

module _ {S A B F : Type 0} (E : Type 0) (steps : S → Option A → S → Type 0) (g : Mut F (B × (A × Unit {0})) (Option B)) (h : B → A → Option B) (f : F) (acts : (b : B) (x : A) (r : Option B) (j : F) → Called g f (b, (x, tt)) r j → (j ≡ f) × (r ≡ h b x)) where
  abbrev Stops : Option A → F → B → Option B → Type 0
  Stops o j a r = MatchOption o (r ≡ Some a) (λ x. (v : Option B) × (k : F) × (e : E) × Called g j (a, (x, tt)) v k × (v ≡ None) × (r ≡ None))

  abbrev Turn : F × B → A → F × B → Type 0
  Turn = λ p x q. (v : Option B) × Called g p.0 (p.1, (x, tt)) v q.0 × (v ≡ Some q.1)

  -- at the end of what came
  ends : (all : List A) (s u : S) (o : Option A) (b : B) (r : Option B) → AlwaysYields steps (λ x. x) s all → steps s o u → Stops o f b r → r ≡ tried h b all
  ends [] s u None b r y e d = d
  ends [] s u (Some x) b r y e d = absurd (y x u e)
  ends (x ∷ xs) s u None b r y e d = absurd (y.0 u e)
  ends (x ∷ xs) s u (Some z) b r y e d =
      let same : z ≡ x = (y.1 z u e).0 in
      d.5 ∙ sym (ap (λ q. and_on q (λ c. tried h c xs)) (ap (h b) (sym same) ∙ sym (acts b z d.0 d.1 d.3).1 ∙ d.4))

  goes : (xs all : List A) (s t u : S) (o : Option A) (b a : B) (j : F) (r : Option B) → AlwaysYields steps (λ x. x) s all → Yields steps s xs t → steps t o u → FoldsTo {P = F × B} Turn (f, b) xs (j, a) → Stops o j a r → r ≡ tried h b all
  goes [] all s t u o b a j r y i e p d =
      ends all s u o b r y (subst (λ k. steps k o u) (sym i) e) (subst (λ (q : F × B). Stops o q.0 q.1 r) (sym p) d)
  goes (x ∷ xs) [] s t u o b a j r y i e p d = absurd (y x i.0 i.1)
  goes (x ∷ xs) (z ∷ zs) s t u o b a j r y i e p d =
      let next = y.1 x i.0 i.1 in
      let acted = acts b x p.1.0 p.0.0 p.1.1 in
      goes xs zs i.0 t u o p.0.1 a j r next.1 i.2 e (subst (λ k. FoldsTo {P = F × B} Turn (k, p.0.1) xs (j, a)) acted.0 p.2) d
      ∙ sym (ap (λ q. and_on q (λ c. tried h c zs)) (ap (h b) (sym next.0) ∙ sym acted.1 ∙ p.1.2))

  pub try_fold_is : (all : List A) (s u : S) (b : B) (r : Option B) → YieldsList steps (λ x. x) s all → TryFoldsItems steps g (λ v c. v ≡ continue_value {B = E} c) (λ _ w. w ≡ None) s f b r u → r ≡ tried h b all
  try_fold_is all s u b r y d = goes d.0 all s d.4.0 u d.1 b d.3 d.2 r y.runs d.4.1 d.4.2 d.5 d.6
