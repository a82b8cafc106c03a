-- Commands to a chip: their bytes.
use Rattle.std.specs.Prelude.{◌≡◌, ℕ, ◌-◌, List, [], ◌∷◌, length, take, drop}
use Rattle.wire.specs.declared.refusals.Refusal.TheVariants.{Malformed}
use Rattle.orders.specs.declared.commands.Command.{Command}
use Rattle.orders.specs.declared.commands.Command.TheVariants.{Put, Sign, Count, Close, Open, Read, SwitchedOn}
use Rattle.wire.specs.Kinds as kind
use Rattle.wire.specs.Layouts.{Field, Part, Form, Bytes, Number, Counted, bytes, counted, at_most, refusing}
use Rattle.orders.specs.Things.{most_closed, whole_thing, shown_thing}

-- whatever is wrong with a command, it is malformed
abbrev pub command_form : ℕ → List Part → Form
command_form k ps = refusing Malformed k ps

abbrev pub close_parts : List Part
close_parts = bytes 32 ∷ counted 2 1 (at_most most_closed) ∷ []

abbrev pub command_forms : List Form
command_forms =
    command_form kind.put (bytes 32 ∷ [])
    ∷ command_form kind.sign (bytes 32 ∷ [])
    ∷ command_form kind.count []
    ∷ command_form kind.close close_parts
    ∷ command_form kind.«open» whole_thing
    ∷ command_form kind.read []
    ∷ command_form kind.switched_on []
    ∷ []

abbrev pub closing : List ℕ → List ℕ → List Field
closing sum bs = Number 1 kind.close ∷ Bytes sum ∷ Counted 2 (length bs) bs ∷ []

abbrev pub shown_command : Command → List Field
shown_command (Put d) = Number 1 kind.put ∷ Bytes d.bytes ∷ []
shown_command (Sign d) = Number 1 kind.sign ∷ Bytes d.bytes ∷ []
shown_command Count = Number 1 kind.count ∷ []
shown_command (Close s x) = closing s.bytes x.now
shown_command (Open t) = Number 1 kind.«open» ∷ shown_thing t
shown_command Read = Number 1 kind.read ∷ []
shown_command SwitchedOn = Number 1 kind.switched_on ∷ []

-- what a seal is over: all bytes of a thing that stand before it
abbrev pub Bodies : List ℕ → Command → Type 0
Bodies w (Put d) = Unit {0}
Bodies w (Sign d) = Unit {0}
Bodies w Count = Unit {0}
Bodies w (Close s x) = Unit {0}
Bodies w (Open t) = t.body.now ≡ take (length w - 17) (drop 1 w)
Bodies w Read = Unit {0}
Bodies w SwitchedOn = Unit {0}
