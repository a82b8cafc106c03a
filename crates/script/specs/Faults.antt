-- Faults in words.
use Rattle.std.specs.Prelude.{ℕ, List, codes}
use Rattle.script.specs.declared.faults.Fault.{Fault}
use Rattle.script.specs.declared.faults.Fault.TheVariants.{Unknown, Shape, TooLong, NoNumber, TooMany, NoFleet, NotKept, NoMemory}

-- the words in which a script's reader is told of the fault
abbrev pub fault_text : Fault → List ℕ
fault_text Unknown = codes "unknown word"
fault_text Shape = codes "a word is missing or too many"
fault_text TooLong = codes "a name of more than 16 bytes"
fault_text NoNumber = codes "not a number, or too large"
fault_text TooMany = codes "too many programs"
fault_text NoFleet = codes "there is no fleet yet"
fault_text NotKept = codes "nothing is kept under this name"
fault_text NoMemory = codes "no memory"
