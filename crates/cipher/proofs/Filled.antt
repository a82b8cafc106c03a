-- An array that a loop fills from its start, xs, with the elements of ys.
use Rattle.std.proofs.Common.{◌≡◌, ℕ, ◌+◌, ◌<◌, ◌≤◌, List, length, get_or, take, set}
use Rattle.std.proofs.lemmas.List.{take_more, take_more_set, take_all}

module _ (xs ys : List ℕ) (i : ℕ) where
  pub filled_more : (y : ℕ) → i < length xs → i < length ys → y ≡ get_or ys i 0 → take i xs ≡ take i ys → take (i + 1) (set xs i y) ≡ take (i + 1) ys
  filled_more y lx ly e before = let left = take_more_set xs i y lx in let right = take_more ys i 0 ly in cc

  pub filled_all : length xs ≤ i → length ys ≤ i → take i xs ≡ take i ys → xs ≡ ys
  filled_all lx ly e = let left = take_all i xs lx in let right = take_all i ys ly in cc
