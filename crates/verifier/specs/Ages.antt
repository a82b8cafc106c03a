-- Questions grow older.
use Rattle.std.specs.Prelude.{ℕ, suc, ◌-◌, cond, List, [], ◌∷◌, nat_lt}
use Rattle.verifier.specs.declared.judges.Question.{Question}

abbrev pub older : ℕ → Question → Question
older n q = record { chip = q.chip; «data» = q.«data»; left = q.left - n }

-- what is left of the questions after n ticks
unfoldable pub aged : ℕ → List Question → List Question
aged n [] = []
aged n (q ∷ qs) = cond (nat_lt n q.left) (older n q ∷ aged n qs) (aged n qs)

-- how many are put out by then
unfoldable pub outdated : ℕ → List Question → ℕ
outdated n [] = 0
outdated n (q ∷ qs) = cond (nat_lt n q.left) (outdated n qs) (suc (outdated n qs))
