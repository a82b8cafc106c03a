-- A refusal that is found by a number has this number.
use Rattle.std.proofs.Common.{◌≡◌, ℕ, Bool, true, false, cond, eqb, List, [], ◌∷◌, Some, sym, refl, ap, ◌∙◌, arith, eqb-true}
use Rattle.wire.specs.declared.refusals.Refusal.{Refusal}
use Rattle.wire.specs.Refusals.{number_of, numbered}

pub numbered_is : (ks : List Refusal) (n : ℕ) (k : Refusal) → Some k ≡ numbered ks n → number_of k ≡ n
numbered_is [] n k e = let z : ◌≡◌ {A = ℕ} 0 1 = cc in absurd (omega arith)
numbered_is (x ∷ ks) n k e = by (eqb n (number_of x)) refl (numbered_is ks n k) e
  where
    by : (b : Bool) → eqb n (number_of x) ≡ b → (Some k ≡ numbered ks n → number_of k ≡ n) → Some k ≡ cond b (Some x) (numbered ks n) → number_of k ≡ n
    by true t more h = let s : k ≡ x = cc in ap number_of s ∙ sym (eqb-true n (number_of x) t)
    by false t more h = more h
