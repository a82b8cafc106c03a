-- Texts are lists of bytes.
use Rattle.std.specs.Prelude.{ℕ, Bool, List}
use Rattle.std.specs.Str.{bytes_eq}

abbrev pub same_text : List ℕ → List ℕ → Bool
same_text a b = bytes_eq a b
