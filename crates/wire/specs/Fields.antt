-- What is written of fields, and what is left of the slice that they are written into.
use Rattle.std.specs.Prelude.{ℕ, ◌+◌, Bool, true, false, cond, List, ◌++◌, map, length, take, drop, replicate, Some, None, Option, ◌==◌, nat_le}
use Rattle.std.specs.Int.Digits as digits
use Rattle.wire.specs.declared.fields.Field as code
use Rattle.wire.specs.declared.fields.Field.TheVariants.{U8, U16, U32, U64, Part}
use Rattle.wire.specs.Layouts.{Field, Bytes, Number, big, number_at}

abbrev pub field_of : code.Field → Field
field_of (U8 n) = Number 1 n
field_of (U16 n) = Number 2 n
field_of (U32 n) = Number 4 n
field_of (U64 n) = Number 8 n
field_of (Part bs) = Bytes bs.now

abbrev pub fields_of : List code.Field → List Field
fields_of fs = map field_of fs

-- bytes laid over others from this place on
abbrev pub pasted : ℕ → List ℕ → List ℕ → List ℕ
pasted at bs before = take at before ++ (bs ++ drop (at + length bs) before)

-- how many bytes were written, and the slice after that: they stand first, and all after them is as it was; where there is no room, nothing is written
abbrev pub written : List ℕ → List ℕ → Option ℕ × List ℕ
written bs before = cond (nat_le (length bs) (length before)) (Some (length bs), bs ++ drop (length bs) before) (None, before)

-- ---- what stands at a place of a word, with zeros where the word ends before

abbrev pub number_in : ℕ → ℕ → List ℕ → ℕ
number_in at width w = cond (nat_le (at + width) (length w)) (number_at at width w) 0

-- so many bytes
abbrev pub part_in : ℕ → ℕ → List ℕ → List ℕ
part_in size at w = cond (nat_le (at + size) (length w)) (take size (drop at w)) (replicate size 0)

abbrev pub bytes_in : ℕ → List ℕ → List ℕ
bytes_in at w = cond (nat_le (at + 32) (length w)) (take 32 (drop at w)) (replicate 32 0)

-- ---- numbers in slices of eight bytes

abbrev pub read_eight : List ℕ → Option ℕ
read_eight bs = cond (length bs == 8) (Some (digits.number_from_digits 256 bs)) None

abbrev pub written_eight : ℕ → List ℕ → Bool × List ℕ
written_eight n before = cond (length before == 8) (true, big 8 n) (false, before)
