-- Two places that hold counter and number, each with a sum: which of them holds the latest, and what a write leaves.
use Rattle.std.specs.Prelude.{◌≡◌, ℕ, ◌+◌, ◌*◌, ◌^◌, Bool, true, false, cond, List, ◌++◌, take, drop, Some, None, Option, nat_lt, slice_index}
use Rattle.std.specs.Str.{bytes_eq}
use Rattle.hash.specs.Sha256.{sha256}
use Rattle.hash.specs.Words.{be64}
use Rattle.slots.specs.declared.marks.Marks.{Marks}
use Rattle.slots.specs.declared.marks.Side.{Side}
use Rattle.slots.specs.declared.marks.Side.TheVariants.{First, Second}

abbrev pub text : Marks → List ℕ
text m = be64 m.counter ++ be64 m.number

-- 48 bytes: counter and number, high byte first, and their sum
abbrev pub place_of : Marks → List ℕ
place_of m = text m ++ sha256 (text m)

-- the number in the eight bytes from i on, high byte first
abbrev pub number_at : List ℕ → ℕ → ℕ
number_at p i = slice_index p i * 2 ^ 56 + slice_index p (i + 1) * 2 ^ 48 + slice_index p (i + 2) * 2 ^ 40 + slice_index p (i + 3) * 2 ^ 32 + slice_index p (i + 4) * 2 ^ 24 + slice_index p (i + 5) * 2 ^ 16 + slice_index p (i + 6) * 2 ^ 8 + slice_index p (i + 7)

-- the sum fits
unfoldable pub fits : List ℕ → Bool
fits p = bytes_eq (take 32 (drop 16 p)) (sha256 (take 16 p))

abbrev pub marks_in : List ℕ → Marks
marks_in p = record { counter = number_at p 0; number = number_at p 8 }

-- what a place holds, if its sum fits
unfoldable pub held : List ℕ → Option Marks
held p = cond (fits p) (Some (marks_in p)) None

abbrev pub other : Side → Side
other First = Second
other Second = First

pub record Places : Type 0 where
  pub first : List ℕ
  pub second : List ℕ

abbrev pub at_side : Side → Places → List ℕ
at_side First p = p.first
at_side Second p = p.second

-- this stands at this side now
abbrev pub with_place : Side → List ℕ → Places → Places
with_place First q p = record { first = q; second = p.second }
with_place Second q p = record { first = p.first; second = q }

abbrev pub age : Marks → ℕ
age m = m.counter + m.number

-- of two that fit, the one whose counter and number add up to more; where they are equal, the first
abbrev pub later_of : Option Marks → Option Marks → Option (Side × Marks)
later_of None None = None
later_of (Some m) None = Some (First, m)
later_of None (Some n) = Some (Second, n)
later_of (Some m) (Some n) = cond (nat_lt (age m) (age n)) (Some (Second, n)) (Some (First, m))

abbrev pub latest : Places → Option (Side × Marks)
latest p = later_of (held p.first) (held p.second)

abbrev pub new_places : Places
new_places = record { first = place_of (record { counter = 0; number = 0 }); second = place_of (record { counter = 0; number = 0 }) }

-- what a write to this side leaves: the new where it was done, and else anything in that place alone
pub record Wrote (s : Side) (q : List ℕ) (before now : Places) (done : Bool) : Type 0 where
  pub whole : done ≡ true → now ≡ with_place s q before
  pub cut : done ≡ false → now ≡ with_place s (at_side s now) before
