-- A row of digests as one sum.
use Rattle.std.specs.Prelude.{ℕ, List, [], ◌∷◌, ◌++◌, replicate}
use Rattle.hash.specs.Sha256.{sha256}

abbrev pub zeros : List ℕ
zeros = replicate 32 0

-- the sum of a row, the latest digest first, by any hash of the old value and the digest
abbrev pub sum_by : (List ℕ → List ℕ) → List (List ℕ) → List ℕ
sum_by h [] = zeros
sum_by h (d ∷ ds) = h (sum_by h ds ++ d)

abbrev pub extended : List ℕ → List ℕ → List ℕ
extended s d = sha256 (s ++ d)

abbrev pub sum_of : List (List ℕ) → List ℕ
sum_of ds = sum_by sha256 ds
