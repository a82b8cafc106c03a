-- A thing's bytes: 2, number, sum, counter, how many bytes and these, and sixteen more that are a seal over all before.
use Rattle.std.specs.Prelude.{◌≡◌, ◌≢◌, ℕ, ◌+◌, ◌≤◌, List, [], ◌∷◌, length, take, drop, nat_eq}
use Rattle.wire.specs.declared.refusals.Refusal.TheVariants.{Malformed}
use Rattle.orders.specs.declared.things.Thing.{Thing}
use Rattle.wire.specs.Kinds as kind
use Rattle.wire.specs.Layouts.{Field, Part, Form, Bytes, Number, Counted, bytes, number, counted, any, at_most, number_at, refusing}

-- the most bytes that are closed
abbrev pub most_closed : ℕ
most_closed = 1024

-- what follows a thing's first byte
abbrev pub thing_parts : List Part
thing_parts = number 8 any ∷ bytes 32 ∷ number 8 any ∷ counted 2 1 (at_most most_closed) ∷ bytes 16 ∷ []

-- a thing with its own first byte
abbrev pub whole_thing : List Part
whole_thing = number 1 (λ k. nat_eq k kind.thing) ∷ thing_parts

abbrev pub thing_form : Form
thing_form = refusing Malformed kind.thing thing_parts

abbrev pub thing_forms : List Form
thing_forms = thing_form ∷ []

abbrev pub shown_thing : Thing → List Field
shown_thing t = Number 1 kind.thing ∷ Number 8 t.number ∷ Bytes t.sum.bytes ∷ Number 8 t.counter ∷ Counted 2 (length t.turned.now) t.turned.now ∷ Bytes t.seal.now ∷ []

-- this part of a word is counted in the two bytes before it, and so many bytes follow it
pub record Counts (at after : ℕ) (w part : List ℕ) : Type 0 where
  pub few : length part ≤ most_closed
  pub says : length part ≡ number_at at 2 w
  pub long : length w ≡ at + 2 + length part + after
  pub is : part ≡ take (length part) (drop (at + 2) w)

-- no part of a word is
abbrev pub CountsNone : (at after : ℕ) → List ℕ → Type 0
CountsNone at after w = number_at at 2 w ≤ most_closed → length w ≢ at + 2 + number_at at 2 w + after

-- what follows the first bytes of a word that is, or ends in, a thing
abbrev pub after_head : List ℕ → (number : ℕ) (sum : List ℕ) (counter : ℕ) (turned seal : List ℕ) → List Field
after_head head n sum counter turned seal = Bytes head ∷ Number 8 n ∷ Bytes sum ∷ Number 8 counter ∷ Counted 2 (length turned) turned ∷ Bytes seal ∷ []
