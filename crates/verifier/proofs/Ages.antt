-- What is kept of the questions, each as it was changed, is what is left of them.
use Rattle.std.proofs.Common.{◌≡◌, ℕ, ◌-◌, ◌<◌, Bool, cond, ltb, List, [], ◌∷◌, refl, sym, subst, ◌∙◌, arith}
use Rattle.std.proofs.lemmas.Bool.Decides.{same_from_decides, Decides-ltb}
use Rattle.std.specs.List.Retain.{RetainsInTurn}
use Rattle.verifier.specs.declared.judges.Question.{Question}
use Rattle.verifier.specs.Ages.{older, aged}

aged_cons : (n : ℕ) (q : Question) (qs : List Question) → aged n (q ∷ qs) ≡ cond (ltb n q.left) (older n q ∷ aged n qs) (aged n qs)
unfolding aged
aged_cons n q qs = refl

aged_nil : (n : ℕ) → aged n [] ≡ []
unfolding aged
aged_nil n = refl

left_over : (n m : ℕ) → ltb 0 (m - n) ≡ ltb n m
left_over n m = same_from_decides _ _ (Decides-ltb 0 (m - n)) ((λ t. let h : n < m = (Decides-ltb n m).0 t in omega arith), λ h. (Decides-ltb n m).1 (omega arith))

pub retained_aged : {S : Type 0} (R : S → Question → Bool → S → Question → Type 0) (n : ℕ) (s : S) → ((q : Question) (b : Bool) (t : S) (r : Question) → R s q b t r → (t ≡ s) × (b ≡ ltb 0 (q.left - n)) × (r ≡ older n q)) → (qs rs : List Question) → RetainsInTurn R s qs rs → rs ≡ aged n qs
retained_aged R n s h [] rs e = e ∙ sym (aged_nil n)
retained_aged R n s h (q ∷ qs) rs (b, t, r, called, rest, more, e) =
    let (same, stays, is) = h q b t r called in
    let ih : rest ≡ aged n qs = retained_aged R n s h qs rest (subst (λ u. RetainsInTurn R u qs rest) same more) in
    e ∙ (λ i. cond ((stays ∙ left_over n q.left) i) (is i ∷ ih i) (ih i)) ∙ sym (aged_cons n q qs)
