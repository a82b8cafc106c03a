-- Blocks that are not full.
use Rattle.std.specs.Prelude.{ℕ, ◌-◌, List, ◌++◌, length, replicate}

-- a block that begins with t and goes on with zeros
unfoldable pub filled : List ℕ → List ℕ
filled t = t ++ replicate (64 - length t) 0
