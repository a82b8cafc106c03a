-- What is looked for in a list, and the tests by which.
use Rattle.std.specs.Prelude.{ℕ, ◌+◌, Bool, true, false, cond, ◌&&◌, List, [], ◌∷◌, Some, None, Option, ◌==◌}
use Rattle.std.specs.Str.{bytes_eq}
use Rattle.device.specs.declared.digests.Data.{Data}
use Rattle.device.specs.declared.digests.Digest.{Digest}
use Rattle.device.specs.Things.{same_data}
use Rattle.verifier.specs.declared.judges.List as list
use Rattle.verifier.specs.declared.judges.Question.{Question}

-- whether one passes
unfoldable pub some : {A : Type 0} → (A → Bool) → List A → Bool
some p [] = false
some p (x ∷ xs) = cond (p x) true (some p xs)

-- the first that passes
unfoldable pub seek : {A : Type 0} → (A → Bool) → List A → Option A
seek p [] = None
seek p (x ∷ xs) = cond (p x) (Some x) (seek p xs)

-- where the first that passes stands, counted from k
unfoldable pub place : {A : Type 0} → (A → Bool) → ℕ → List A → Option ℕ
place p k [] = None
place p k (x ∷ xs) = cond (p x) (Some k) (place p (k + 1) xs)

unfoldable pub is_digest : Digest → Digest → Bool
is_digest d e = bytes_eq d.bytes e.bytes

abbrev pub has_number : ℕ → list.List → Bool
has_number n l = n == l.number

-- the question is to this chip, with this data
abbrev pub asks : ℕ → Data → Question → Bool
asks a d q = a == q.chip && same_data d q.«data»
