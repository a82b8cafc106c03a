-- What holds of every reader: words and their bytes determine each other.
use Rattle.std.specs.Prelude.{◌≡◌, ℕ, List, [], ◌∷◌, ◌++◌, Some, Ok, Err, Result, slice_index}
use Rattle.std.specs.Int.Digits.{AllBelowBase}
use Rattle.wire.specs.declared.refusals.Refusal.{Refusal}
use Rattle.wire.specs.Layouts.{Field, Form, Fits, Number, encoded, find, read_of}

-- the forms that a word may have; only a start list's say is in its own bytes
abbrev pub Forms : Type 0
Forms = List ℕ → List Form

abbrev pub always : List Form → Forms
always forms w = forms

-- these fields are a word of one of these forms, within its limits
pub record Word (forms : Forms) (fs : List Field) : Type 0 where
  pub form : Form
  pub rest : List Field
  pub found : find (forms (encoded fs)) (slice_index (encoded fs) 0) ≡ Some form
  pub is : fs ≡ Number 1 form.kind ∷ rest
  pub fit : Fits form.parts rest

-- reading what was written gives it back; what was read, written again, is the word; two words with the same bytes are the same; none is a proper beginning of another
pub record Exact (unknown : Refusal) (forms : Forms) : Type 0 where
  pub gives_back : (fs : List Field) → Word forms fs → read_of unknown (forms (encoded fs)) (encoded fs) ≡ Ok fs
  pub whole : (w : List ℕ) (fs : List Field) → AllBelowBase 256 w → read_of unknown (forms w) w ≡ Ok fs → (w ≡ encoded fs) × Word forms fs
  pub one_value : (fs gs : List Field) → Word forms fs → Word forms gs → encoded fs ≡ encoded gs → fs ≡ gs
  pub no_beginning : (fs gs : List Field) (more : List ℕ) → Word forms fs → Word forms gs → encoded gs ≡ encoded fs ++ more → more ≡ []

-- a reader's answer, with the value by its fields
abbrev pub outcome : {V : Type 0} → (V → List Field) → Result V Refusal → Result (List Field) Refusal
outcome shown (Ok v) = Ok (shown v)
outcome shown (Err k) = Err k

-- a reader of words of these forms: its answer is the one that the rules give, a value exactly if the word is that value's bytes within its limits
pub record Reads {V : Type 0} (shown : V → List Field) (unknown : Refusal) (forms : Forms) (w : List ℕ) (r : Result V Refusal) : Type 0 where
  pub answers : outcome shown r ≡ read_of unknown (forms w) w
  pub only : (v : V) → r ≡ Ok v → (w ≡ encoded (shown v)) × Word forms (shown v)
  pub each : (v : V) → Word forms (shown v) → w ≡ encoded (shown v) → outcome shown r ≡ Ok (shown v)
  pub laws : Exact unknown forms
