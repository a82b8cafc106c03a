-- What is read of a thing.
use Rattle.std.proofs.Common.{◌≡◌, ℕ, suc, ◌+◌, ◌-◌, ◌*◌, ◌≤◌, Bool, true, false, cond, ◌&&◌, eqb, leb, List, [], ◌∷◌, length, get_or, take, drop, Some, None, Ok, Err, Result, sym, refl, ap, ◌∙◌, arith, eqb-true, le-leb}
use Rattle.std.proofs.lemmas.List.{take_all, length-drop}
use Rattle.std.proofs.lemmas.Bool.{and_parts}
use Rattle.std.proofs.lemmas.Bool.Decides.{same_from_decides, Decides-eqb, Decides-like}
use Rattle.wire.specs.declared.refusals.Refusal.{Refusal}
use Rattle.wire.specs.declared.refusals.Refusal.TheVariants.{Malformed}
use Rattle.wire.specs.Layouts.{Field, Bytes, Number, Counted, number_at, total, fields, allowed, read_form, read_by, read_of, refusing}
use Rattle.orders.specs.Things.{Counts, thing_parts, thing_form, thing_forms, whole_thing}
use Rattle.wire.proofs.Layouts.{Shifted, shifted}
use Rattle.wire.proofs.Words.{whole_form, faulty, refusing_is, true_false}

pub thing_read : (w : List ℕ) (number counter : ℕ) (sum turned seal : List ℕ) → Counts 49 16 w turned → number ≡ number_at 1 8 w → sum ≡ take 32 (drop 9 w) → counter ≡ number_at 41 8 w → seal ≡ drop (length w - 16) w → Ok (Number 1 2 ∷ Number 8 number ∷ Bytes sum ∷ Number 8 counter ∷ Counted 2 (length turned) turned ∷ Bytes seal ∷ []) ≡ read_form thing_form w
thing_read w number counter sum turned seal t a b d s =
    let n : ℕ = 1 * number_at 49 2 w in
    let same : length turned ≡ n = omega (arith, t.says) in
    let good : allowed 1 thing_parts w ≡ true = ap (λ (k : ℕ). leb k 1024 && true) (sym t.says) ∙ ap (λ b. b && true) (le-leb _ 1024 t.few) in
    let place : length w - 16 ≡ 51 + n = omega (arith, t.long) in
    let left = length-drop (51 + n) w in
    let rest = s ∙ ap (λ (k : ℕ). drop k w) place ∙ sym (take_all 16 (drop (51 + n) w) (omega (arith, t.long))) in
    (λ i. Ok (Number 1 2 ∷ Number 8 (a i) ∷ Bytes (b i) ∷ Number 8 (d i) ∷ Counted 2 (t.says i) ((t.is ∙ ap (λ (k : ℕ). take k (drop 51 w)) same) i) ∷ Bytes (rest i) ∷ []))
    ∙ sym (whole_form thing_form w (omega (arith, t.long)) good)

-- ---- a thing inside another word

abbrev pub under : ℕ → Result (List Field) Refusal → Result (List Field) Refusal
under k (Ok fs) = Ok (Number 1 k ∷ fs)
under k (Err e) = Err e

first_number : (x : ℕ) (w : List ℕ) → number_at 1 1 (x ∷ w) ≡ get_or w 0 0
first_number x [] = refl
first_number x (y ∷ w) = omega arith

under_cond : (k : ℕ) (b : Bool) (fs : List Field) → cond b (Ok (Number 1 k ∷ fs)) (Err Malformed) ≡ under k (cond b (Ok fs) (Err Malformed))
under_cond k true fs = refl
under_cond k false fs = refl

nested_cons : (k x : ℕ) (w : List ℕ) → read_form (refusing Malformed k whole_thing) (x ∷ w) ≡ under k (read_of Malformed thing_forms w)
nested_cons k x w = by (eqb (get_or w 0 0) 2) refl
  where
    m : number_at 1 1 (x ∷ w) ≡ get_or w 0 0
    m = first_number x w

    s : Shifted 1 2 thing_parts x w
    s = shifted 1 2 thing_parts x w refl

    by : (b : Bool) → eqb (get_or w 0 0) 2 ≡ b → read_form (refusing Malformed k whole_thing) (x ∷ w) ≡ under k (read_by Malformed (cond b (Some thing_form) None) w)
    by false e = faulty Malformed k whole_thing (x ∷ w) (λ _ a. let p = and_parts (eqb (number_at 1 1 (x ∷ w)) 2) (allowed 2 thing_parts (x ∷ w)) a in true_false (sym p.0 ∙ ap (λ (n : ℕ). eqb n 2) m ∙ e))
    by true e =
        let two : number_at 1 1 (x ∷ w) ≡ 2 = m ∙ eqb-true (get_or w 0 0) 2 e in
        let sizes : eqb (total 2 thing_parts (x ∷ w)) (suc (length w)) ≡ eqb (total 1 thing_parts w) (length w) = ap (λ (n : ℕ). eqb n (suc (length w))) s.long ∙ same_from_decides _ _ (Decides-eqb (suc (total 1 thing_parts w)) (suc (length w))) (Decides-like _ (λ e. ap suc e) (λ e. omega arith) (Decides-eqb (total 1 thing_parts w) (length w))) in
        refusing_is Malformed k whole_thing (x ∷ w)
        ∙ (λ i. cond (sizes i && (eqb (two i) 2 && s.good i)) (Ok (Number 1 k ∷ Number 1 (two i) ∷ s.same i)) (Err Malformed))
        ∙ under_cond k (eqb (total 1 thing_parts w) (length w) && allowed 1 thing_parts w) (Number 1 2 ∷ fields 1 thing_parts w)
        ∙ ap (under k) (sym (refusing_is Malformed 2 thing_parts w))

nested : (k : ℕ) (w : List ℕ) → 1 ≤ length w → read_form (refusing Malformed k whole_thing) w ≡ under k (read_of Malformed thing_forms (take (length w - 1) (drop 1 w)))
nested k [] h = absurd (omega arith)
nested k (x ∷ w) h = nested_cons k x w ∙ ap (λ v. under k (read_of Malformed thing_forms v)) (sym (take_all (suc (length w) - 1) w (omega arith)))

-- a word of this kind whose thing is this part of it
pub inside : (k : ℕ) (w : List ℕ) (r : Result (List Field) Refusal) → 1 ≤ length w → r ≡ read_of Malformed thing_forms (take (length w - 1) (drop 1 w)) → under k r ≡ read_form (refusing Malformed k whole_thing) w
inside k w r h is = ap (under k) is ∙ sym (nested k w h)

-- any fault of a thing is that it is malformed
only_malformed : (w : List ℕ) (e : Refusal) → Err e ≡ read_of Malformed thing_forms w → e ≡ Malformed
only_malformed w e is = by (eqb (get_or w 0 0) 2) is
  where
    in_form : (b : Bool) → Err e ≡ cond b (Ok (Number 1 2 ∷ fields 1 thing_parts w)) (Err Malformed) → e ≡ Malformed
    in_form true h = let z : ◌≡◌ {A = ℕ} 0 1 = cc in absurd (omega arith)
    in_form false h = cc

    by : (b : Bool) → Err e ≡ read_by Malformed (cond b (Some thing_form) None) w → e ≡ Malformed
    by true h = in_form (eqb (total 1 thing_parts w) (length w) && allowed 1 thing_parts w) (h ∙ refusing_is Malformed 2 thing_parts w)
    by false h = cc

-- so a word whose thing can't be read is malformed, too
pub inside_fault : (k : ℕ) (w : List ℕ) (e : Refusal) → 1 ≤ length w → Err e ≡ read_of Malformed thing_forms (take (length w - 1) (drop 1 w)) → Err Malformed ≡ read_form (refusing Malformed k whole_thing) w
inside_fault k w e h is = sym (nested k w h ∙ ap (under k) (sym is) ∙ ap (λ x. Err x) (only_malformed (take (length w - 1) (drop 1 w)) e is))
