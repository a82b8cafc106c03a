-- A list many times over.
use Rattle.std.specs.Prelude.{ℕ, zero, suc, List, [], ◌++◌}

unfoldable pub repeated : List ℕ → ℕ → List ℕ
repeated xs zero = []
repeated xs (suc n) = repeated xs n ++ xs
