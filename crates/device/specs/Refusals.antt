-- The numbers by which refusals are told.
use Rattle.std.specs.Prelude.{ℕ}
use Rattle.device.specs.declared.refusals.Refusal.{Refusal}
use Rattle.device.specs.declared.refusals.Refusal.TheVariants.{Full, Malformed, BadSeal, OtherRow, OtherCounter, UsedUp, NoProgram, UnknownChip, NoQuestion, BadList, BadSignature, NoDraws}

abbrev pub number_of : Refusal → ℕ
number_of Full = 0
number_of Malformed = 1
number_of BadSeal = 2
number_of OtherRow = 3
number_of OtherCounter = 4
number_of UsedUp = 5
number_of NoProgram = 7
number_of UnknownChip = 8
number_of NoQuestion = 9
number_of BadList = 10
number_of BadSignature = 11
number_of NoDraws = 12
