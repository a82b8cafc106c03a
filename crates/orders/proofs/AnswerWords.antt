-- What is read of a refusal and of flags.
use Rattle.std.proofs.Common.{◌≡◌, ℕ, zero, suc, ◌<◌, ◌≤◌, ◌↔◌, Bool, true, false, ◌&&◌, leb, List, [], ◌∷◌, length, get_or, is_some, Some, Ok, sym, refl, ap, ◌∙◌, arith, le-leb, leb-true}
use Rattle.std.proofs.lemmas.Bool.{and_parts, and_from}
use Rattle.wire.specs.declared.refusals.Refusal.{Refusal}
use Rattle.wire.specs.Layouts.{Number, number_at, allowed, read_form}
use Rattle.wire.specs.Refusals.{number_of, all_refusals, refusal_of}
use Rattle.wire.proofs.Bigs.{byte_at}
use Rattle.wire.proofs.RefusalNumbers.{numbered_is}
use Rattle.wire.proofs.Words.{whole_form}
use Rattle.orders.specs.Answers.{flags, flagged, answer_form, refused_parts}

pub refused_read : (w : List ℕ) (k : Refusal) → length w ≡ 2 → Some k ≡ refusal_of (get_or w 1 0) → Ok (Number 1 32 ∷ Number 1 (number_of k) ∷ []) ≡ read_form (answer_form 32 refused_parts) w
refused_read w k l e =
    let n : number_at 1 1 w ≡ get_or w 1 0 = byte_at 1 w in
    let good : allowed 1 refused_parts w ≡ true = ap (λ (m : ℕ). is_some (refusal_of m) && true) n ∙ ap (λ o. is_some o && true) (sym e) in
    let same : number_of k ≡ number_at 1 1 w = numbered_is all_refusals (get_or w 1 0) k e ∙ sym n in
    (λ i. Ok (Number 1 32 ∷ Number 1 (same i) ∷ [])) ∙ sym (whole_form (answer_form 32 refused_parts) w (sym l) good)

-- ---- flags, one by one

flags_each : (bs : List ℕ) → ((k : ℕ) → k < length bs → get_or bs k 0 ≤ 1) → flags bs ≡ true
flags_each [] h = refl
flags_each (b ∷ bs) h = and_from (leb b 1) (flags bs) (le-leb b 1 (h 0 (omega arith))) (flags_each bs (λ k l. h (suc k) (omega arith)))

each_flag : (bs : List ℕ) → flags bs ≡ true → (k : ℕ) → k < length bs → get_or bs k 0 ≤ 1
each_flag [] e k l = absurd (omega arith)
each_flag (b ∷ bs) e zero l = leb-true b 1 (and_parts (leb b 1) (flags bs) e).0
each_flag (b ∷ bs) e (suc k) l = each_flag bs (and_parts (leb b 1) (flags bs) e).1 k (omega arith)

flags_are : (bs : List ℕ) (r : Bool) → (r ≡ true ↔ ((k : ℕ) → k < length bs → get_or bs k 0 ≤ 1)) → r ≡ flags bs
flags_are bs true h = sym (flags_each bs (h.0 refl))
flags_are bs false h = by (flags bs) refl
  where
    by : (b : Bool) → flags bs ≡ b → false ≡ b
    by true e = h.1 (each_flag bs e)
    by false e = refl

pub flagged_is : (bs : List ℕ) (r : Bool) → 1 ≤ length bs → length bs ≤ 16 → (r ≡ true ↔ ((k : ℕ) → k < length bs → get_or bs k 0 ≤ 1)) → r ≡ flagged (length bs) bs
flagged_is bs r some few each =
    let counted = and_from (leb 1 (length bs)) (leb (length bs) 16) (le-leb _ _ some) (le-leb _ _ few) in
    flags_are bs r each ∙ sym (ap (λ b. b && flags bs) counted)
