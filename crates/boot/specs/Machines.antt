-- What switching, loading and starting do to a machine by value.
use Rattle.std.specs.Prelude.{ℕ, List, [], ◌∷◌, Some, None, Option, Ok, Err, Result}
use Rattle.device.specs.declared.chips.Chip.{Chip}
use Rattle.device.specs.declared.digests.Digest.{Digest}
use Rattle.device.specs.declared.refusals.Refusal.{Refusal}
use Rattle.device.specs.declared.registers.Register.{Register}
use Rattle.device.specs.Rows.{empty_register, pushed}
use Rattle.device.specs.Commands as chip
use Rattle.boot.specs.declared.machines.Machine.{Machine}

abbrev pub new_machine : ℕ → Machine
new_machine a = record { chip = chip.new_chip a; ran = empty_register }

abbrev pub switched : Machine → Machine
switched m = record { chip = chip.switched m.chip; ran = empty_register }

abbrev pub ran_with : Chip → Option Register → Option Machine
ran_with c None = None
ran_with c (Some r) = Some (record { chip = c; ran = r })

abbrev pub put_into : Result Chip Refusal → Option Register → Option Machine
put_into (Ok c) r = ran_with c r
put_into (Err k) r = None

-- the digest is put in, and then the program is loaded
abbrev pub load_of : Machine → Digest → Option Machine
load_of m d = put_into (chip.put_of m.chip d) (pushed m.ran d)

abbrev pub go_on : Option Machine → (Machine → Option Machine) → Option Machine
go_on None f = None
go_on (Some m) f = f m

-- these programs in this order
unfoldable pub load_all_of : Machine → List Digest → Option Machine
load_all_of m [] = Some m
load_all_of m (d ∷ ds) = go_on (load_of m d) (λ n. load_all_of n ds)
