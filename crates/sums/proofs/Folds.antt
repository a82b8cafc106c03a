-- The sum of a row, one digest more.
use Rattle.std.proofs.Common.{◌≡◌, ℕ, ◌+◌, ◌<◌, List, [], ◌∷◌, reverse, length, get_or, take, sym, ap, ◌∙◌}
use Rattle.std.proofs.lemmas.List.{reverse-append, take_more}
use Rattle.sums.specs.Sums.{extended, sum_of}

pub sum_more : (ds : List (List ℕ)) (i : ℕ) (d s : List ℕ) → i < length ds → s ≡ sum_of (reverse (take i ds)) → extended s (get_or ds i d) ≡ sum_of (reverse (take (i + 1) ds))
sum_more ds i d s h e = ap (λ x. extended x (get_or ds i d)) e ∙ sym (ap (λ xs. sum_of (reverse xs)) (take_more ds i d h) ∙ ap sum_of (reverse-append (take i ds) (get_or ds i d ∷ [])))
