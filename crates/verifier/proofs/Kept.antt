-- Questions that are put out one after another.
use Rattle.std.proofs.Common.{◌≡◌, ℕ, zero, suc, ◌-◌, Bool, true, false, cond, eqb, ltb, List, [], ◌∷◌, ◌++◌, map, length, take, sym, refl, ap, ◌∙◌, subst, append_assoc, arith}
use mathlib.Core.Path.{fun_ext}
use Rattle.model.specs.World.{Programs, World, Question}
use Rattle.model.specs.Effect.{at, with_questions, on_judge}
use Rattle.model.specs.Step as step
use Rattle.model.specs.Run as run
use Rattle.model.specs.Run.{Run}
use Rattle.model.proofs.Places.{at_same, at_unread}
use Rattle.verifier.specs.declared.judges.Question as value
use Rattle.verifier.specs.Ages.{older, aged, outdated}

-- so many were put out of a list, and these are left
pub data Kept {A : Type 0} : ℕ → List A → List A → Type 0 where
  none : Kept 0 [] []
  stays : {k : ℕ} {xs ys : List A} (x : A) → Kept k xs ys → Kept k (x ∷ xs) (x ∷ ys)
  out : {k : ℕ} {xs ys : List A} (x : A) → Kept k xs ys → Kept (suc k) (x ∷ xs) ys

-- ---- worlds that differ in one judge

-- the same questions again
unchanged : (w : World) (j : ℕ) → on_judge j (with_questions (w.judges j).questions) w ≡ w
unchanged w j = let e : at j (w.judges j) w.judges ≡ w.judges = at_unread (λ d. d) j (w.judges j) w.judges refl in λ i. record { machines = w.machines; judges = e i; heard = w.heard; asked = w.asked; accepted = w.accepted; opened = w.opened; next = w.next }

-- of two lists of questions the later one counts
over : (w : World) (j : ℕ) (qs rs : List Question) → on_judge j (with_questions qs) (on_judge j (with_questions rs) w) ≡ on_judge j (with_questions qs) w
over w j qs rs = λ i. record { machines = w.machines; judges = fun_ext (λ k. by k (eqb k j)) i; heard = w.heard; asked = w.asked; accepted = w.accepted; opened = w.opened; next = w.next }
  where
    by : (k : ℕ) (b : Bool) → cond b (with_questions qs (at j (with_questions rs (w.judges j)) w.judges j)) (cond b (with_questions rs (w.judges j)) (w.judges k)) ≡ cond b (with_questions qs (w.judges j)) (w.judges k)
    by k true = ap (with_questions qs) (at_same j (with_questions rs (w.judges j)) w.judges)
    by k false = refl

pub puts_out : (pr : Programs) (w : World) (j : ℕ) (newer : List Question) {k : ℕ} {xs ys : List Question} → Kept k xs ys → (w.judges j).questions ≡ newer ++ xs → Run pr k w (on_judge j (with_questions (newer ++ ys)) w)
puts_out pr w j newer none e = subst (λ v. Run pr 0 w v) (sym (ap (λ qs. on_judge j (with_questions qs) w) (sym e) ∙ unchanged w j)) run.here
puts_out pr w j newer (stays {k} {xs} {ys} x t) e = subst (λ qs. Run pr k w (on_judge j (with_questions qs) w)) (append_assoc newer (x ∷ []) ys) (puts_out pr w j (newer ++ x ∷ []) t (e ∙ sym (append_assoc newer (x ∷ []) xs)))
puts_out pr w j newer (out {k} {xs} {ys} x t) e =
    let before : Run pr k w (on_judge j (with_questions (newer ++ x ∷ ys)) w) = subst (λ qs. Run pr k w (on_judge j (with_questions qs) w)) (append_assoc newer (x ∷ []) ys) (puts_out pr w j (newer ++ x ∷ []) t (e ∙ sym (append_assoc newer (x ∷ []) xs))) in
    subst (λ v. Run pr (suc k) w v) (over w j (newer ++ ys) (newer ++ x ∷ ys)) (run.onward before (step.puts_out (on_judge j (with_questions (newer ++ x ∷ ys)) w) j newer ys x (ap (λ d. d.questions) (at_same j _ w.judges))))

-- ---- by age, and beyond a number

pub kept_aged : (f : value.Question → Question) (n : ℕ) → ((q : value.Question) → f (older n q) ≡ f q) → (qs : List value.Question) → Kept (outdated n qs) (map f qs) (map f (aged n qs))
unfolding aged outdated
kept_aged f n same [] = none
kept_aged f n same (q ∷ qs) = by (ltb n q.left) (kept_aged f n same qs)
  where
    by : (b : Bool) → Kept (outdated n qs) (map f qs) (map f (aged n qs)) → Kept (cond b (outdated n qs) (suc (outdated n qs))) (f q ∷ map f qs) (map f (cond b (older n q ∷ aged n qs) (aged n qs)))
    by true t = subst (λ x. Kept (outdated n qs) (f q ∷ map f qs) (x ∷ map f (aged n qs))) (sym (same q)) (stays (f q) t)
    by false t = out (f q) t

pub kept_first : {A : Type 0} (n : ℕ) (xs : List A) → Kept (length xs - n) xs (take n xs)
kept_first zero [] = none
kept_first {A} (suc n) [] = let z : 0 - suc n ≡ 0 = omega arith in subst (λ k. Kept {A = A} k [] []) (sym z) none
kept_first zero (x ∷ xs) = let m : suc (length xs) - 0 ≡ suc (length xs - 0) = omega arith in subst (λ k. Kept k (x ∷ xs) []) (sym m) (out x (kept_first zero xs))
kept_first (suc n) (x ∷ xs) = let m : suc (length xs) - suc n ≡ length xs - n = omega arith in subst (λ k. Kept k (x ∷ xs) (x ∷ take n xs)) (sym m) (stays x (kept_first n xs))
