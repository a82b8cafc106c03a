-- What a keeper does with each act: which event of a chip's history that is, and what it answers.
use Rattle.std.specs.Prelude.{ℕ, Bool, true, false, cond, List, [], Some, None, Option, Ok, Err, Result}
use Rattle.slots.specs.declared.keepers.Keeper.{Keeper}
use Rattle.slots.specs.declared.marks.Act.{Act}
use Rattle.slots.specs.declared.marks.Marks.{Marks}
use Rattle.slots.specs.declared.marks.StepError.{StepError}
use Rattle.slots.specs.declared.marks.StepError.TheVariants.{UsedUp, NoPlace, Lost}
use Rattle.slots.specs.declared.marks.Side.{Side}
use Rattle.slots.specs.Histories.{Chip, Does, Cut, may, after}
use Rattle.slots.specs.Places.{Places, other, at_side}

-- a keeper as a chip between two events
abbrev pub chip_of : {S : Type 0} → (S → Places) → Keeper S → Chip
chip_of image k = record { places = image k.storage; live = k.live }

abbrev pub lost : Result Marks StepError → Bool
lost (Ok m) = false
lost (Err UsedUp) = false
lost (Err NoPlace) = false
lost (Err Lost) = true

-- b: whether power was lost
abbrev pub outcome : Bool → Act → Option (Side × Marks) → Result Marks StepError
outcome b a None = Err NoPlace
outcome b a (Some (s, m)) = cond (may a m) (cond b (Err Lost) (Ok m)) (Err UsedUp)

-- what a cut write left, where it wrote
abbrev pub left_in : Places → Option (Side × Marks) → List ℕ
left_in p None = []
left_in p (Some (s, m)) = at_side (other s) p

-- the chip after the act; p: the places as they are then
abbrev pub stepped : Result Marks StepError → Act → Chip → Places → Chip
stepped (Ok m) a c p = after c (Does a)
stepped (Err UsedUp) a c p = c
stepped (Err NoPlace) a c p = c
stepped (Err Lost) a c p = after c (Cut a (left_in p c.live))
