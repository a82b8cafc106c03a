-- The numbers by which refusals are told.
use Rattle.std.specs.Prelude.{ℕ, cond, List, [], ◌∷◌, Some, None, Option, ◌==◌}
use Rattle.wire.specs.declared.refusals.Refusal.{Refusal}
use Rattle.wire.specs.declared.refusals.Refusal.TheVariants.{Malformed, BadSeal, OtherSum, OtherCounter, UsedUp, NoPlace, NoProgram, UnknownChip, NoQuestion, BadList, BadSign, NoDraws}

abbrev pub number_of : Refusal → ℕ
number_of Malformed = 1
number_of BadSeal = 2
number_of OtherSum = 3
number_of OtherCounter = 4
number_of UsedUp = 5
number_of NoPlace = 6
number_of NoProgram = 7
number_of UnknownChip = 8
number_of NoQuestion = 9
number_of BadList = 10
number_of BadSign = 11
number_of NoDraws = 12

-- the first of these that has this number
abbrev pub numbered : List Refusal → ℕ → Option Refusal
numbered [] n = None
numbered (k ∷ ks) n = cond (n == number_of k) (Some k) (numbered ks n)

abbrev pub all_refusals : List Refusal
all_refusals = Malformed ∷ BadSeal ∷ OtherSum ∷ OtherCounter ∷ UsedUp ∷ NoPlace ∷ NoProgram ∷ UnknownChip ∷ NoQuestion ∷ BadList ∷ BadSign ∷ NoDraws ∷ []

abbrev pub refusal_of : ℕ → Option Refusal
refusal_of n = numbered all_refusals n
