-- Words as rows of fields: what bytes a row of fields has, and how a word is taken apart by a layout.
use Rattle.std.specs.Prelude.{◌≡◌, ℕ, zero, suc, ◌+◌, ◌*◌, ◌/◌, ◌%◌, ◌^◌, ◌<◌, Bool, true, cond, ◌&&◌, List, [], ◌∷◌, ◌++◌, length, take, drop, Some, None, Ok, Err, Option, Result, ◌==◌, nat_le, nat_lt, slice_index}
use Rattle.std.specs.Int.Digits as digits
use Rattle.wire.specs.declared.refusals.Refusal.{Refusal}

-- ---- numbers, high byte first

-- n in so many bytes
unfoldable pub big : ℕ → ℕ → List ℕ
big zero n = []
big (suc width) n = big width (n / 256) ++ (n % 256 ∷ [])

-- the number that stands at this place of a word in so many bytes
abbrev pub number_at : ℕ → ℕ → List ℕ → ℕ
number_at at width w = digits.number_from_digits 256 (take width (drop at w))

-- ---- fields

-- Bytes: bytes as they are
-- Number: a number in so many bytes
-- Counted: in so many bytes how many there are, then these
pub data Field : Type 0 where
  Bytes : List ℕ → Field
  Number : (width : ℕ) → ℕ → Field
  Counted : (width count : ℕ) → List ℕ → Field

abbrev pub bytes_of : Field → List ℕ
bytes_of (Bytes bs) = bs
bytes_of (Number width n) = big width n
bytes_of (Counted width count bs) = big width count ++ bs

-- the bytes of a word
abbrev pub encoded : List Field → List ℕ
encoded [] = []
encoded (f ∷ fs) = bytes_of f ++ encoded fs

-- ---- layouts

-- bytes: so many bytes
-- number: a number in so many bytes, within a limit
-- counted: in so many bytes how many there are, then each in unit bytes, within a limit of how many and of what there is
pub data Part : Type 0 where
  bytes : ℕ → Part
  number : (width : ℕ) (may : ℕ → Bool) → Part
  counted : (width unit : ℕ) (may : ℕ → List ℕ → Bool) → Part

-- limits
abbrev pub any : ℕ → Bool
any n = true

abbrev pub of_any : ℕ → List ℕ → Bool
of_any n bs = true

abbrev pub at_most : ℕ → ℕ → List ℕ → Bool
at_most most n bs = nat_le n most

-- these fields are of this layout
pub data Fits : List Part → List Field → Type 0 where
  fits_none : Fits [] []
  fits_bytes : {n : ℕ} {bs : List ℕ} {ps : List Part} {fs : List Field} → length bs ≡ n → Fits ps fs → Fits (bytes n ∷ ps) (Bytes bs ∷ fs)
  fits_number : {width n : ℕ} {may : ℕ → Bool} {ps : List Part} {fs : List Field} → n < 256 ^ width → may n ≡ true → Fits ps fs → Fits (number width may ∷ ps) (Number width n ∷ fs)
  fits_counted : {width unit n : ℕ} {may : ℕ → List ℕ → Bool} {bs : List ℕ} {ps : List Part} {fs : List Field} → n < 256 ^ width → length bs ≡ unit * n → may n bs ≡ true → Fits ps fs → Fits (counted width unit may ∷ ps) (Counted width n bs ∷ fs)

-- ---- a word taken apart, from this place on

-- how long the word has to be, as far as its counts say
abbrev pub total : ℕ → List Part → List ℕ → ℕ
total at [] w = at
total at (bytes n ∷ ps) w = total (at + n) ps w
total at (number width may ∷ ps) w = total (at + width) ps w
total at (counted width unit may ∷ ps) w = total (at + width + unit * number_at at width w) ps w

abbrev pub fields : ℕ → List Part → List ℕ → List Field
fields at [] w = []
fields at (bytes n ∷ ps) w = Bytes (take n (drop at w)) ∷ fields (at + n) ps w
fields at (number width may ∷ ps) w = Number width (number_at at width w) ∷ fields (at + width) ps w
fields at (counted width unit may ∷ ps) w = Counted width (number_at at width w) (take (unit * number_at at width w) (drop (at + width) w)) ∷ fields (at + width + unit * number_at at width w) ps w

-- whether each number and each count is within its limit
abbrev pub allowed : ℕ → List Part → List ℕ → Bool
allowed at [] w = true
allowed at (bytes n ∷ ps) w = allowed (at + n) ps w
allowed at (number width may ∷ ps) w = may (number_at at width w) && allowed (at + width) ps w
allowed at (counted width unit may ∷ ps) w = may (number_at at width w) (take (unit * number_at at width w) (drop (at + width) w)) && allowed (at + width + unit * number_at at width w) ps w

-- ---- reading

-- a kind of word: its first byte, the layout of what follows, and what it is refused by if it is cut, too long, or out of its limits
pub record Form : Type 0 where
  pub kind : ℕ
  pub parts : List Part
  pub cut : Refusal
  pub long : Refusal
  pub over : Refusal

-- one whose every fault is this
abbrev pub refusing : Refusal → ℕ → List Part → Form
refusing r k ps = record { kind = k; parts = ps; cut = r; long = r; over = r }

-- what is read of a word of this kind; its length is told before its limits
abbrev pub read_form : Form → List ℕ → Result (List Field) Refusal
read_form f w =
    cond (nat_lt (length w) (total 1 f.parts w)) (Err f.cut)
    (cond (nat_lt (total 1 f.parts w) (length w)) (Err f.long)
    (cond (allowed 1 f.parts w) (Ok (Number 1 f.kind ∷ fields 1 f.parts w)) (Err f.over)))

-- the form of this kind
abbrev pub find : List Form → ℕ → Option Form
find [] k = None
find (f ∷ fs) k = cond (k == f.kind) (Some f) (find fs k)

abbrev pub read_by : Refusal → Option Form → List ℕ → Result (List Field) Refusal
read_by unknown None w = Err unknown
read_by unknown (Some f) w = read_form f w

-- what is read of a word of one of these forms; of another kind, or empty, it is unknown
abbrev pub read_of : Refusal → List Form → List ℕ → Result (List Field) Refusal
read_of unknown forms w = read_by unknown (find forms (slice_index w 0)) w
