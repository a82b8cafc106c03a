-- Words at their places, suffixes, and the searches for a verb.
use Rattle.std.proofs.Common.{◌≡◌, ℕ, ◌-◌, ◌<◌, ◌≤◌, Bool, true, false, ◌||◌, cond, ltb, List, [], ◌∷◌, length, get_or, take, Some, None, Err, Result, sym, refl, ap, ◌∙◌, arith, Bor}
use Rattle.std.proofs.lemmas.List.{get_or-map}
use Rattle.std.proofs.lemmas.Option.{slice_get_within, get_or_from_slice_get}
use Rattle.std.proofs.lemmas.Bool.Decides.{nat_tests}
use Rattle.std.specs.List.{find, list_any, slice_get}
use Rattle.script.specs.declared.faults.Fault.{Fault}
use Rattle.script.specs.declared.faults.Fault.TheVariants.{Shape, Unknown}
use Rattle.script.specs.declared.lines.places.Places.{Places}
use Rattle.script.specs.declared.lines.Part.TheVariants.{Other}
use Rattle.script.specs.declared.verbs.Key.{Key}
use Rattle.script.specs.declared.verbs.Verb.{Verb}
use Rattle.script.specs.Texts.{same_text}
use Rattle.script.specs.Verbs.{key_text, verb_text}
use Rattle.script.specs.Forms.{Words, word_at, ends_with, begins, first_suiting, misfit_of}
use Rattle.script.specs.Lines.{put_of, ended_of}

pub word_is : (ws : Words) (i : ℕ) (d : Bor (List ℕ)) → i < length ws → (get_or ws i d).now ≡ word_at ws i
unfolding word_at
word_is ws i d l = sym (get_or-map (λ w. w.now) ws i d [] l)

pub suffix_is : (k : Key) (ws : Words) (d : Bor (List ℕ)) (t : List ℕ) (b : Bool) → 2 ≤ length ws → t ≡ key_text k → b ≡ same_text (get_or ws (length ws - 2) d).now t → cond b (Some (take (length ws - 2) ws)) None ≡ ends_with k ws
suffix_is k ws d t b l e h =
    let two : false ≡ ltb (length ws) 2 = grind (arith, nat_tests) in
    let is : b ≡ same_text (word_at ws (length ws - 2)) (key_text k) = h ∙ ap (same_text (get_or ws (length ws - 2) d).now) e ∙ ap (λ w. same_text w (key_text k)) (word_is ws (length ws - 2) d (omega arith)) in
    ap (λ q. cond q (Some (take (length ws - 2) ws)) None) is ∙ ap (λ q. cond q None (cond (same_text (word_at ws (length ws - 2)) (key_text k)) (Some (take (length ws - 2) ws)) None)) two

pub suffix_short : (k : Key) (ws : Words) → length ws < 2 → None ≡ ends_with k ws
suffix_short k ws l =
    let two : true ≡ ltb (length ws) 2 = grind (arith, nat_tests) in
    ap (λ q. cond q None (cond (same_text (word_at ws (length ws - 2)) (key_text k)) (Some (take (length ws - 2) ws)) None)) two

-- the first verb, and why there is none, by the library's searches
pub suiting : (w : List ℕ) (ws : Words) (vs : List Verb) → find (begins w ws) vs ≡ first_suiting w ws vs
unfolding first_suiting
suiting w ws [] = refl
suiting w ws (v ∷ vs) = ap (cond (begins w ws v) (Some v)) (suiting w ws vs)

pub misfits : (w : List ℕ) (vs : List Verb) → cond (list_any (λ v. same_text w (verb_text v)) vs) Shape Unknown ≡ misfit_of w vs
unfolding misfit_of
misfits w [] = refl
misfits w (v ∷ vs) = either (same_text w (verb_text v)) (misfits w vs)
  where
    either : (b : Bool) → cond (list_any (λ v. same_text w (verb_text v)) vs) Shape Unknown ≡ misfit_of w vs → cond (b || list_any (λ v. same_text w (verb_text v)) vs) Shape Unknown ≡ cond b Shape (misfit_of w vs)
    either true h = refl
    either false h = h

pub ended_is : (p : Places) (k : Key) (ws : Words) (w : Bor (List ℕ)) (r : Result Places Fault) → Some w ≡ slice_get ws (length ws - 1) → r ≡ put_of p Other w.now → r ≡ ended_of p (Some k) ws
ended_is p k ws w r is h =
    let in_range : length ws - 1 < length ws = slice_get_within ws (length ws - 1) w (sym is) in
    let one : false ≡ ltb (length ws) 1 = grind (arith, nat_tests) in
    let same : w ≡ get_or ws (length ws - 1) w = sym (get_or_from_slice_get ws (length ws - 1) w w (sym is)) in
    h ∙ ap (λ v. put_of p Other v.now) same ∙ ap (put_of p Other) (word_is ws (length ws - 1) w in_range) ∙ ap (λ q. cond q (Err Shape) (put_of p Other (word_at ws (length ws - 1)))) one
