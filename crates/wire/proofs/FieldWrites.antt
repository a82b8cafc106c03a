-- Fields written one after another.
use Rattle.std.proofs.Common.{◌≡◌, ℕ, ◌+◌, ◌-◌, ◌<◌, ◌≤◌, Bool, true, false, List, [], ◌∷◌, ◌++◌, length, get_or, take, drop, Some, None, Option, SomeIff, sym, refl, ap, ◌∙◌, subst, add-zero, arith, ◌^◌, min}
use borrow.Rule.Slice.PartMut.{put_mid}
use Rattle.std.proofs.lemmas.List.{append-nil, append_assoc, length-append, take_at, drop-drop, drop_at, take-append-drop, map-append, map_more}
use Rattle.std.specs.List.{fold}
use Rattle.std.specs.Bool.{MatchBool}
use Rattle.wire.specs.declared.fields.Field as code
use Rattle.wire.specs.Fields.{field_of, fields_of, pasted}
use Rattle.wire.specs.Layouts.{Field, bytes_of, encoded}

encoded_append : (fs gs : List Field) → encoded (fs ++ gs) ≡ encoded fs ++ encoded gs
encoded_append [] gs = refl
encoded_append (f ∷ fs) gs = ap (λ x. bytes_of f ++ x) (encoded_append fs gs) ∙ sym (append_assoc (bytes_of f) (encoded fs) (encoded gs))

-- the bytes of the first so many fields
abbrev pub first : ℕ → List code.Field → List ℕ
first i fs = encoded (fields_of (take i fs))

pub first_more : (fs : List code.Field) (i : ℕ) (d : code.Field) → i < length fs → first (i + 1) fs ≡ first i fs ++ bytes_of (field_of (get_or fs i d))
first_more fs i d h =
    ap encoded (map_more field_of fs i d h)
    ∙ encoded_append (fields_of (take i fs)) (field_of (get_or fs i d) ∷ [])
    ∙ ap (λ x. first i fs ++ x) (append-nil (bytes_of (field_of (get_or fs i d))))

pub size_more : (fs : List code.Field) (i : ℕ) (d : code.Field) (size : ℕ) → i < length fs → size ≡ length (first i fs) → size + length (bytes_of (field_of (get_or fs i d))) ≡ length (first (i + 1) fs)
size_more fs i d size h s =
    let b = ap length (first_more fs i d h) ∙ length-append (first i fs) (bytes_of (field_of (get_or fs i d))) in
    omega arith

first_front : (fs : List code.Field) (i : ℕ) → length (first i fs) ≤ length (encoded (fields_of fs))
first_front fs i =
    let e = ap (λ x. encoded (fields_of x)) (sym (take-append-drop i fs)) ∙ ap encoded (map-append field_of (take i fs) (drop i fs)) ∙ encoded_append (fields_of (take i fs)) (fields_of (drop i fs)) in
    let l = ap length e ∙ length-append (first i fs) (encoded (fields_of (drop i fs))) in
    omega arith

-- ---- how many bytes they have

-- one field's bytes more
abbrev pub with : ℕ → code.Field → ℕ
with n f = n + length (bytes_of (field_of f))

fold_with : (fs : List code.Field) (n : ℕ) → fold with n fs ≡ n + length (encoded (fields_of fs))
fold_with [] n = sym (add-zero n)
fold_with (f ∷ fs) n =
    let h = fold_with fs (with n f) in
    let l = length-append (bytes_of (field_of f)) (encoded (fields_of fs)) in
    omega arith

pub told : (fs : List code.Field) (r : Option ℕ) (n : ℕ) → r ≡ Some n → n < 2 ^ 64 → n ≡ fold with 0 fs → SomeIff r (length (encoded (fields_of fs)) < 2 ^ 64) (length (encoded (fields_of fs)))
told fs r n is small e =
    let l = fold_with fs 0 in
    subst (λ o. SomeIff o (length (encoded (fields_of fs)) < 2 ^ 64) (length (encoded (fields_of fs)))) (sym is) (omega arith, omega arith)

pub untold : (fs : List code.Field) (r : Option ℕ) → r ≡ None → 2 ^ 64 ≤ fold with 0 fs → SomeIff r (length (encoded (fields_of fs)) < 2 ^ 64) (length (encoded (fields_of fs)))
untold fs r is large =
    let l = fold_with fs 0 in
    subst (λ o. SomeIff o (length (encoded (fields_of fs)) < 2 ^ 64) (length (encoded (fields_of fs)))) (sym is) (λ h. omega arith)

-- one field's bytes more, and never more than the limit
abbrev pub within : ℕ → ℕ → code.Field → ℕ
within limit n f = min limit (with n f)

fold_within : (limit : ℕ) (fs : List code.Field) (n : ℕ) → n ≤ limit → fold (within limit) n fs ≤ limit
fold_within limit [] n h = h
fold_within limit (f ∷ fs) n h = fold_within limit fs (within limit n f) (omega arith)

pub told_within : (fs : List code.Field) (limit : ℕ) (r : Option ℕ) (n : ℕ) → r ≡ Some n → n ≡ fold (within limit) 0 fs → n ≡ fold with 0 fs → SomeIff r (length (encoded (fields_of fs)) ≤ limit) (length (encoded (fields_of fs)))
told_within fs limit r n is low e =
    let l = fold_with fs 0 in
    let k = fold_within limit fs 0 (omega arith) in
    subst (λ o. SomeIff o (length (encoded (fields_of fs)) ≤ limit) (length (encoded (fields_of fs)))) (sym is) (omega arith, omega arith)

pub untold_within : (fs : List code.Field) (limit : ℕ) (r : Option ℕ) → r ≡ None → limit < fold with 0 fs → SomeIff r (length (encoded (fields_of fs)) ≤ limit) (length (encoded (fields_of fs)))
untold_within fs limit r is large =
    let l = fold_with fs 0 in
    subst (λ o. SomeIff o (length (encoded (fields_of fs)) ≤ limit) (length (encoded (fields_of fs)))) (sym is) (λ h. omega arith)

pub either : {P Q R : Type 0} (b : Bool) → MatchBool b P Q → (b ≡ true → P → R) → (b ≡ false → Q → R) → R
either true m on off = on refl m
either false m on off = off refl m

-- ---- writing

pub paste_is : (at : ℕ) (part before now : List ℕ) → now ≡ part → put_mid at (at + length part - at) before now ≡ pasted at part before
paste_is at part before now e =
    let k : at + length part - at ≡ length part = omega arith in
    let d : drop (at + length part - at) (drop at before) ≡ drop (at + length part) before = ap (λ (n : ℕ). drop n (drop at before)) k ∙ drop-drop (length part) at before in
    λ i. take at before ++ (e i ++ d i)

pub paste_more : (at : ℕ) (done part before : List ℕ) → at ≡ length done → pasted at part (done ++ drop at before) ≡ (done ++ part) ++ drop (at + length part) before
paste_more at done part before e =
    let t : take at (done ++ drop at before) ≡ done = take_at done (drop at before) at (sym e) in
    let d : drop (at + length part) (done ++ drop at before) ≡ drop (at + length part) before =
    sym (drop-drop (length part) at (done ++ drop at before)) ∙ ap (drop (length part)) (drop_at done (drop at before) at (sym e)) ∙ drop-drop (length part) at before in
    (λ i. t i ++ (part ++ d i)) ∙ sym (append_assoc done part (drop (at + length part) before))

pub step_fits : (fs : List code.Field) (i : ℕ) (d : code.Field) (at limit : ℕ) → i < length fs → at ≡ length (first i fs) → length (encoded (fields_of fs)) ≤ limit → at + length (bytes_of (field_of (get_or fs i d))) ≤ limit
step_fits fs i d at limit h a r =
    let p = first_front fs (i + 1) in
    let b = size_more fs i d at h a in
    omega arith

-- one field more
pub record Sofar (fs : List code.Field) (i at : ℕ) (before now : List ℕ) : Type 0 where
  pub place : at ≡ length (first i fs)
  pub is : now ≡ first i fs ++ drop at before

pub sofar_none : (fs : List code.Field) (before : List ℕ) → Sofar fs 0 0 before before
sofar_none fs before = record { place = refl; is = refl }

pub sofar_more : (fs : List code.Field) (i at : ℕ) (d : code.Field) (before now after : List ℕ) (size : ℕ) → Sofar fs i at before now → i < length fs → size ≡ length (bytes_of (field_of (get_or fs i d))) → after ≡ pasted at (bytes_of (field_of (get_or fs i d))) now → Sofar fs (i + 1) (at + size) before after
sofar_more fs i at d before now after size s h m e =
    let part : List ℕ = bytes_of (field_of (get_or fs i d)) in
    record {
      place = ap (λ (n : ℕ). at + n) m ∙ size_more fs i d at h s.place;
      is =
          e ∙ ap (pasted at part) s.is ∙ paste_more at (first i fs) part before s.place
          ∙ (λ j. sym (first_more fs i d h) j ++ drop (at + sym m j) before);
    }
