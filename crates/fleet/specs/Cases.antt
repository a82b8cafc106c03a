-- Worked cases: scripts of events, each with what has to come. Programs p and q are good, b is bad; every row begins with the first program.
use Rattle.std.specs.Prelude.{◌≡◌, ℕ, Bool, true, false, List, [], ◌∷◌, ◌++◌, take, replicate, Some, None, Option, Ok, Err, Result}
use Rattle.device.specs.declared.chips.Answer.{Answer}
use Rattle.device.specs.declared.chips.Answer.TheVariants as answer
use Rattle.device.specs.declared.chips.Command.TheVariants as command
use Rattle.device.specs.declared.chips.Signature.{Signature}
use Rattle.device.specs.declared.chips.Target.TheVariants as target
use Rattle.device.specs.declared.chips.Thing.{Thing}
use Rattle.device.specs.declared.digests.Data.{Data}
use Rattle.device.specs.declared.digests.Digest.{Digest}
use Rattle.device.specs.declared.registers.Register.{Register}
use Rattle.device.specs.Commands as chip
use Rattle.device.specs.Refusals.{number_of}
use Rattle.device.specs.Rows.{row, empty_register}
use Rattle.boot.specs.declared.disks.File.{File}
use Rattle.boot.specs.declared.disks.File.TheVariants as file
use Rattle.boot.specs.declared.disks.Name.{Name}
use Rattle.boot.specs.Machines.{new_machine}
use Rattle.verifier.specs.declared.judges.Word.TheVariants as word
use Rattle.verifier.specs.Rows.{gathered}
use Rattle.verifier.specs.Seats.{new_seat}
use Rattle.fleet.specs.declared.fleets.Act.TheVariants.{Start, Give, Keep, CutClose}
use Rattle.fleet.specs.declared.fleets.Event.{Event}
use Rattle.fleet.specs.declared.fleets.Event.TheVariants.{At, Office, Net, Write}
use Rattle.fleet.specs.declared.fleets.Fault.{Fault}
use Rattle.fleet.specs.declared.fleets.Fault.TheVariants.{Refused, Unwilling, Nobody, NoMemory}
use Rattle.fleet.specs.declared.fleets.Report.{Report}
use Rattle.fleet.specs.declared.fleets.Report.TheVariants.{Done, Answered, Told, Accepted}
use Rattle.model.specs.Effect.{made}
use Rattle.fleet.specs.Makes.{Begins}
use Rattle.fleet.specs.Runs.{Happening, Ran, Ready, Agrees}
use Rattle.fleet.specs.Sights.{Sight, played}
use Rattle.fleet.specs.Worlds.{Setting}

-- ---- what has to come, in short

-- Fine: it was done; No n: refused by this number; Number n: a thing with this number was given out; Row: this row was accepted, with which of its digests the office knows, and what really ran; Nothing: nobody did anything
pub data Brief : Type 0 where
  Fine : Brief
  No : ℕ → Brief
  Number : ℕ → Brief
  Row : (accepted : List Digest) (known : List Bool) (ran : Option (List Digest)) → Brief
  Nothing : Brief

abbrev pub row_in : Option Register → Option (List Digest)
row_in None = None
row_in (Some r) = Some (row r)

abbrev pub brief_answer : Answer → Brief
brief_answer answer.Done = Fine
brief_answer (answer.Signed g) = Fine
brief_answer (answer.Counter n) = Fine
brief_answer (answer.Closed x) = Number x.content.number
brief_answer (answer.Opened d) = Fine
brief_answer (answer.Now n r) = Fine

abbrev pub brief_report : Report → Brief
brief_report Done = Fine
brief_report (Answered a) = brief_answer a
brief_report (Told x) = Fine
brief_report (Accepted x o) = Row (row x.row) (take x.row.len x.flags.known) (row_in o)

abbrev pub brief_fault : Fault → Brief
brief_fault (Refused k) = No (number_of k)
brief_fault Unwilling = Nothing
brief_fault Nobody = Nothing
brief_fault NoMemory = Nothing

abbrev pub brief : Result Report Fault → Brief
brief (Ok r) = brief_report r
brief (Err f) = brief_fault f

-- an event, the digests beside it, and what has to come
pub record Line : Type 0 where
  pub event : Event
  pub digests : List Digest
  pub expect : Brief

-- each line of the script gives what it has to, where memory is found
abbrev pub Gives : Sight → List Line → Type 0
Gives s [] = Unit {0}
Gives s (l ∷ ls) = (brief (played true s l.event l.digests).1 ≡ l.expect) × Gives (played true s l.event l.digests).0 ls

abbrev pub EachGives : Sight → List (List Line) → Type 0
EachGives s [] = Unit {0}
EachGives s (c ∷ cs) = Gives s c × EachGives s cs

-- ---- programs, names and values

abbrev pub program : ℕ → Digest
program n = record { bytes = n ∷ replicate 31 0 }

abbrev pub drawn_bytes : ℕ → Data
drawn_bytes n = record { bytes = n ∷ replicate 31 0 }

abbrev pub name : ℕ → Name
name n = record { bytes = n ∷ replicate 15 0 }

abbrev pub first : Digest
first = program 1

abbrev pub p : Digest
p = program 2

abbrev pub q : Digest
q = program 3

abbrev pub b : Digest
b = program 4

abbrev pub taken : Option Register → Register
taken None = empty_register
taken (Some r) = r

abbrev pub register_of : List Digest → Register
register_of ds = taken (gathered ds)

-- what chip 0 signs
abbrev pub signature : ℕ → List Digest → Signature
signature n ds = record { chip = 0; «data» = drawn_bytes n; register = register_of ds }

-- the first thing of chip 0, closed for a row
abbrev pub thing : (counter : ℕ) → List Digest → ℕ → Thing
thing counter ds n = chip.sealed 0 (record { number = 0; target = target.Row (register_of ds); counter = counter; «data» = drawn_bytes n })

-- ---- lines

abbrev pub line : Event → Brief → Line
line e x = record { event = e; digests = []; expect = x }

abbrev pub file_line : ℕ → File → Line
file_line n f = line (Write (name n) f f) Fine

-- a start list of two programs
abbrev pub two : (m n : ℕ) → File
two m n = file.List (record { names = name m ∷ name n ∷ replicate 6 (name 0); count = 2; further = false })

-- the programs stand on the disk, and start lists for p, q and for p, b
abbrev pub disk_lines : List Line
disk_lines = file_line 2 (file.Program p) ∷ file_line 3 (file.Program q) ∷ file_line 4 (file.Program b) ∷ file_line 10 (two 2 3) ∷ file_line 11 (two 2 4) ∷ []

abbrev pub list_line : ℕ → List Digest → Line
list_line n ds = record { event = Office 0 (word.List n) None; digests = ds; expect = Fine }

-- the judge knows chip 0, the row first, p, q, and which programs the office takes to be good
abbrev pub judge_lines : List Line
judge_lines = line (Office 0 (word.Chip 0) None) Fine ∷ list_line 1 (first ∷ p ∷ q ∷ []) ∷ record { event = Office 0 word.Good None; digests = first ∷ p ∷ q ∷ []; expect = Fine } ∷ []

abbrev pub start : ℕ → Line
start n = line (At 0 (Start (name n))) Fine

abbrev pub ask : ℕ → Line
ask n = line (Office 0 (word.Ask 0) (Some (drawn_bytes n))) Fine

abbrev pub sign : ℕ → Line
sign n = line (At 0 (Give (command.Sign (drawn_bytes n)))) Fine

abbrev pub put : Digest → Line
put d = line (At 0 (Give (command.Put d))) Fine

abbrev pub count : Line
count = line (At 0 (Give command.Count)) Fine

-- list n, question m, and this signature
abbrev pub answer_line : ℕ → ℕ → Signature → Brief → Line
answer_line n m g x = line (Net 0 (word.Answer (record { chip = 0; «data» = drawn_bytes m; list = n; signature = g }))) x

-- a secret for first, p, q
abbrev pub keep : ℕ → (number : ℕ) → Line
keep n k = line (At 0 (Keep (target.Row (register_of (first ∷ p ∷ q ∷ []))) (drawn_bytes n))) (Number k)

abbrev pub open_line : Thing → ℕ → Line
open_line x n = line (At 0 (Give (command.Open x))) (No n)

-- ---- the cases

-- A: the judge asks, is answered, and accepts first, p, q
abbrev pub case_a : List Line
case_a = disk_lines ++ (judge_lines ++ (start 10 ∷ ask 20 ∷ sign 20 ∷ answer_line 1 20 (signature 20 (first ∷ p ∷ q ∷ [])) (Row (first ∷ p ∷ q ∷ []) (true ∷ true ∷ true ∷ []) (Some (first ∷ p ∷ q ∷ []))) ∷ []))

-- B: the signature of A comes again for a new question
abbrev pub case_b : List Line
case_b = case_a ++ (ask 21 ∷ answer_line 1 21 (signature 20 (first ∷ p ∷ q ∷ [])) (No 11) ∷ [])

-- C: b puts q in; the row is accepted as what it is, the office does not know b, and q did not run
abbrev pub case_c : List Line
case_c = disk_lines ++ (judge_lines ++ (list_line 2 (first ∷ p ∷ b ∷ q ∷ []) ∷ start 11 ∷ put q ∷ ask 22 ∷ sign 22 ∷ answer_line 2 22 (signature 22 (first ∷ p ∷ b ∷ q ∷ [])) (Row (first ∷ p ∷ b ∷ q ∷ []) (true ∷ true ∷ false ∷ true ∷ []) (Some (first ∷ p ∷ b ∷ []))) ∷ []))

-- D: a secret for first, p, q is brought to a machine that runs first, p, b
abbrev pub case_d : List Line
case_d = disk_lines ++ (start 10 ∷ keep 30 0 ∷ start 11 ∷ open_line (thing 0 (first ∷ p ∷ q ∷ []) 30) 3 ∷ [])

-- E: the same, after b put in anything
abbrev pub case_e : List Line
case_e = disk_lines ++ (start 10 ∷ keep 30 0 ∷ start 11 ∷ put q ∷ open_line (thing 0 (first ∷ p ∷ q ∷ []) 30) 3 ∷ [])

-- F: a secret closed under counter 4, after which the machine counts; the old disk brings it back
abbrev pub case_f : List Line
case_f = disk_lines ++ (start 10 ∷ count ∷ count ∷ count ∷ count ∷ keep 30 0 ∷ count ∷ start 10 ∷ open_line (thing 4 (first ∷ p ∷ q ∷ []) 30) 4 ∷ [])

-- G: power is lost while the chip closes
abbrev pub case_g : List Line
case_g = disk_lines ++ (start 10 ∷ keep 30 0 ∷ line (At 0 CutClose) Fine ∷ start 10 ∷ keep 31 2 ∷ [])

abbrev pub cases : List (List Line)
cases = case_a ∷ case_b ∷ case_c ∷ case_d ∷ case_e ∷ case_f ∷ case_g ∷ []

-- one machine and one judge, to which nothing happened yet
abbrev pub new_village : Sight
new_village = record { first = first; bad = b ∷ []; machines = new_machine 0 ∷ []; seats = new_seat first ∷ []; disk = []; heard = []; shown = [] }

abbrev pub CasesHold : Type 0
CasesHold = EachGives new_village cases

-- ---- the promise is not empty

-- a script with the reports that come
abbrev pub log_of : Sight → List Line → List Happening
log_of s [] = []
log_of s (l ∷ ls) = record { event = l.event; digests = l.digests; report = (played true s l.event l.digests).1 } ∷ log_of (played true s l.event l.digests).0 ls

abbrev pub end_of : Sight → List Line → Sight
end_of s [] = s
end_of s (l ∷ ls) = end_of (played true s l.event l.digests).0 ls

-- case A, which ends with an acceptance, begins with a new fleet and meets all that is asked of its events, in some setting that agrees with the fleet
abbrev pub Covered : Type 0
Covered = Begins first (b ∷ []) 1 1 new_village × Ran new_village (log_of new_village case_a) (end_of new_village case_a) × ((o : Setting) × Agrees o new_village × Ready o new_village (log_of new_village case_a) made)
