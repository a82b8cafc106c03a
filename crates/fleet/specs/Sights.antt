-- What each event does to a fleet, and what is reported.
use Rattle.std.specs.Prelude.{ℕ, Bool, true, false, cond, ◌&&◌, List, [], ◌∷◌, length, replicate, Some, None, vec_items, Option, Ok, Err, Result, ◌==◌, nat_lt, slice_index_or, slice_set}
use Rattle.device.specs.declared.chips.Answer.{Answer}
use Rattle.device.specs.declared.chips.Answer.TheVariants as answer
use Rattle.device.specs.declared.chips.Chip.{Chip}
use Rattle.device.specs.declared.chips.Command.{Command}
use Rattle.device.specs.declared.chips.Command.TheVariants as command
use Rattle.device.specs.declared.chips.Signature.{Signature}
use Rattle.device.specs.declared.chips.Target.TheVariants as target
use Rattle.device.specs.declared.digests.Data.{Data}
use Rattle.device.specs.declared.digests.Digest.{Digest}
use Rattle.device.specs.declared.refusals.Refusal.{Refusal}
use Rattle.device.specs.declared.refusals.Refusal.TheVariants as refusal
use Rattle.device.specs.declared.registers.Register.{Register}
use Rattle.device.specs.Commands as chip
use Rattle.device.specs.Rows.{row, pushed, same_row}
use Rattle.device.specs.Things.{same_data}
use Rattle.boot.specs.declared.disks.Entry.{Entry}
use Rattle.boot.specs.declared.machines.Machine.{Machine}
use Rattle.boot.specs.Disks.{added}
use Rattle.boot.specs.Machines as machine
use Rattle.boot.specs.Starts.{Outcome, Asked, start_of, ask_of}
use Rattle.verifier.specs.declared.judges.Fault.{Fault as JudgeFault}
use Rattle.verifier.specs.declared.judges.Said.{Said}
use Rattle.verifier.specs.declared.judges.Said.TheVariants as said
use Rattle.verifier.specs.declared.judges.Word.{Word}
use Rattle.verifier.specs.declared.judges.Word.TheVariants as word
use Rattle.verifier.specs.Searches.{some, seek, is_digest}
use Rattle.verifier.specs.Seats.{Seat, new_seat, office_of, net_of}
use Rattle.fleet.specs.declared.fleets.Act.{Act}
use Rattle.fleet.specs.declared.fleets.Act.TheVariants.{Switch, Start, Load, Give, Keep, Run, CutCount, CutClose}
use Rattle.fleet.specs.declared.fleets.Event.{Event}
use Rattle.fleet.specs.declared.fleets.Event.TheVariants.{At, Office, Net, Fall, Write, Wipe}
use Rattle.fleet.specs.declared.fleets.Fault.{Fault}
use Rattle.fleet.specs.declared.fleets.Fault.TheVariants.{Refused, Unwilling, Nobody, NoMemory}
use Rattle.fleet.specs.declared.fleets.Outside.{Outside}
use Rattle.fleet.specs.declared.fleets.Report.{Report}
use Rattle.fleet.specs.declared.fleets.Report.TheVariants.{Done, Answered, Told, Accepted}
use Rattle.fleet.specs.declared.fleets.Shown.{Shown}
use Rattle.fleet.specs.Faults.{fault_of}

-- what contracts see of a fleet: all but its memory
pub record Sight : Type 0 where
  pub first : Digest
  pub bad : List Digest
  pub machines : List Machine
  pub seats : List Seat
  pub disk : List Entry
  pub heard : List Data
  pub shown : List Shown

-- what is around, with machine x alone and no judge
abbrev pub alone : Machine → Outside → Sight
alone x o = record { first = o.first; bad = vec_items o.bad; machines = x ∷ []; seats = []; disk = o.disk; heard = vec_items o.heard; shown = vec_items o.shown }

abbrev pub with_machine : ℕ → Machine → Sight → Sight
with_machine i x s = record { first = s.first; bad = s.bad; machines = slice_set s.machines i x; seats = s.seats; disk = s.disk; heard = s.heard; shown = s.shown }

abbrev pub with_seat : ℕ → Seat → Sight → Sight
with_seat j d s = record { first = s.first; bad = s.bad; machines = s.machines; seats = slice_set s.seats j d; disk = s.disk; heard = s.heard; shown = s.shown }

abbrev pub with_disk : List Entry → Sight → Sight
with_disk es s = record { first = s.first; bad = s.bad; machines = s.machines; seats = s.seats; disk = es; heard = s.heard; shown = s.shown }

abbrev pub with_heard : List Data → Sight → Sight
with_heard hs s = record { first = s.first; bad = s.bad; machines = s.machines; seats = s.seats; disk = s.disk; heard = hs; shown = s.shown }

abbrev pub hearing : Data → Sight → Sight
hearing d s = with_heard (d ∷ s.heard) s

abbrev pub showing : Shown → Sight → Sight
showing x s = record { first = s.first; bad = s.bad; machines = s.machines; seats = s.seats; disk = s.disk; heard = s.heard; shown = x ∷ s.shown }

-- whether memory was found
abbrev pub found : Result Report Fault → Bool
found (Ok r) = true
found (Err (Refused k)) = true
found (Err Unwilling) = true
found (Err Nobody) = true
found (Err NoMemory) = false

-- ---- machines

-- whether one of these programs is bad
unfoldable pub any_bad_of : List Digest → List Digest → Bool
any_bad_of bad [] = false
any_bad_of bad (d ∷ ds) = cond (some (is_digest d) bad) true (any_bad_of bad ds)

-- whether a bad program was loaded since the switch
abbrev pub tainted : Sight → Machine → Bool
tainted s x = any_bad_of s.bad (row x.ran)

abbrev pub with_chip : Machine → Chip → Machine
with_chip x c = record { chip = c; ran = x.ran }

-- what is reported where nothing more is told
abbrev pub done_or : {A : Type 0} → Result A Refusal → Result Report Fault
done_or (Ok x) = Ok Done
done_or (Err k) = Err (Refused k)

-- what was there before, where it is refused
abbrev pub or_before : {A : Type 0} → A → Result A Refusal → A
or_before x (Ok y) = y
or_before x (Err k) = x

-- a start from the disk: what was loaded before a refusal stays
abbrev pub started : ℕ → Sight → Outcome → Sight × Result Report Fault
started i s o = (with_disk o.0 (with_machine i o.1.0 s), done_or o.1.1)

-- a load from the disk
abbrev pub loaded : ℕ → Sight → Machine → Asked → Sight × Result Report Fault
loaded i s x o = (with_disk o.0 (with_machine i (or_before x o.1) s), done_or o.1)

-- the chip after a command, or as it was where it refused
abbrev pub chip_after : {A : Type 0} → Chip → Result (Chip × A) Refusal → Chip
chip_after c (Ok r) = r.0
chip_after c (Err k) = c

abbrev pub answer_report : Result (Chip × Answer) Refusal → Result Report Fault
answer_report (Ok r) = Ok (Answered r.1)
answer_report (Err k) = Err (Refused k)

-- the machine after that, and what is reported
abbrev pub telling : Machine → Result (Chip × Answer) Refusal → Machine × Result Report Fault
telling x r = (with_chip x (chip_after x.chip r), answer_report r)

abbrev pub answering : ℕ → Sight → Machine → Result (Chip × Answer) Refusal → Sight × Result Report Fault
answering i s x r = (with_machine i (telling x r).0 s, (telling x r).1)

-- what a signature is remembered with
abbrev pub shown_by : Machine → Data → Shown
shown_by x d = record { signature = chip.signature_of x.chip d; ran = x.ran }

-- a bad program tells outsiders what it had opened
abbrev pub opening_told : Bool → ℕ → Sight → Machine → Result Data Refusal → Sight × Result Report Fault
opening_told b i s x (Ok d) = (cond b (hearing d (with_machine i x s)) (with_machine i x s), Ok (Answered (answer.Opened d)))
opening_told b i s x (Err k) = (with_machine i x s, Err (Refused k))

-- m: whether memory is found for what is to be remembered
abbrev pub given : Bool → ℕ → Sight → Machine → Command → Sight × Result Report Fault
given m i s x (command.Put d) = cond (tainted s x) (answering i s x (chip.answered x.chip (command.Put d))) (s, Err Unwilling)
given m i s x (command.Sign d) = cond m (showing (shown_by x d) (with_machine i x s), Ok (Answered (answer.Signed (chip.signature_of x.chip d)))) (s, Err NoMemory)
given m i s x command.Count = answering i s x (chip.answered x.chip command.Count)
given m i s x (command.Close t d) = answering i s x (chip.answered x.chip (command.Close t d))
given m i s x (command.Open y) = cond m (opening_told (tainted s x) i s x (chip.opened x.chip y)) (s, Err NoMemory)
given m i s x command.Read = answering i s x (chip.answered x.chip command.Read)
given m i s x command.SwitchedOn = answering i s x (chip.answered x.chip command.SwitchedOn)

abbrev pub running : ℕ → Sight → Machine → Option Register → Sight × Result Report Fault
running i s x None = (s, Err (Refused refusal.Full))
running i s x (Some r) = (with_machine i (record { chip = x.chip; ran = r }) s, Ok Done)

abbrev pub no_data : Data
no_data = record { bytes = replicate 32 0 }

-- power is lost while the chip counts, before or after the counter was written
abbrev pub cut_counting : Machine → Bool → Machine
cut_counting x b = machine.switched (with_chip x (cond b (or_before x.chip (chip.counted x.chip)) x.chip))

-- and while it closes: what would have been closed is lost
abbrev pub cut_closing : Machine → Machine
cut_closing x = machine.switched (with_chip x (chip_after x.chip (chip.closed x.chip target.Nowhere no_data)))

-- the machine x stands at i
abbrev pub acted : Bool → ℕ → Sight → Machine → Act → Sight × Result Report Fault
acted m i s x Switch = (with_machine i (machine.switched x) s, Ok Done)
acted m i s x (Start n) = started i s (start_of x s.first s.disk n)
acted m i s x (Load n) = loaded i s x (ask_of x s.disk n)
acted m i s x (Give c) = given m i s x c
acted m i s x (Keep t d) = answering i s x (chip.answered x.chip (command.Close t d))
acted m i s x (Run d) = cond (tainted s x) (running i s x (pushed x.ran d)) (s, Err Unwilling)
acted m i s x (CutCount b) = (with_machine i (cut_counting x b) s, Ok Done)
acted m i s x CutClose = (with_machine i (cut_closing x) s, Ok Done)

-- ---- judges

abbrev pub same_signature : Signature → Shown → Bool
same_signature g x = g.chip == x.signature.chip && same_data g.«data» x.signature.«data» && same_row g.register x.signature.register

abbrev pub ran_of : Option Shown → Option Register
ran_of None = None
ran_of (Some x) = Some x.ran

-- what had been loaded when this signature was given out
abbrev pub really_ran_of : List Shown → Signature → Option Register
really_ran_of xs g = ran_of (seek (same_signature g) xs)

abbrev pub signature_in : Word → Option Signature
signature_in (word.Answer p) = Some p.signature
signature_in (word.Ask a) = None
signature_in (word.List n) = None
signature_in word.Good = None
signature_in (word.Chip a) = None
signature_in (word.Ticks n) = None

abbrev pub ran_for_of : List Shown → Option Signature → Option Register
ran_for_of xs None = None
ran_for_of xs (Some g) = really_ran_of xs g

-- outsiders hear what a judge asks
abbrev pub heard_of : Said → List Data → List Data
heard_of (said.Asks a q) hs = q ∷ hs
heard_of (said.Accepted x) hs = hs
heard_of said.Done hs = hs

-- an acceptance is reported with what really ran
abbrev pub report_of : List Shown → Word → Said → Report
report_of xs w (said.Asks a q) = Told (said.Asks a q)
report_of xs w (said.Accepted x) = Accepted x (ran_for_of xs (signature_in w))
report_of xs w said.Done = Told said.Done

abbrev pub judged : ℕ → Sight → Word → Seat × Result Said JudgeFault → Sight × Result Report Fault
judged j s w (d, Ok x) = (with_heard (heard_of x s.heard) (with_seat j d s), Ok (report_of s.shown w x))
judged j s w (d, Err f) = (with_seat j d s, Err (fault_of f))

-- ---- every event

abbrev pub machine_at : Sight → ℕ → Machine
machine_at s i = slice_index_or s.machines i (machine.new_machine 0)

abbrev pub seat_at : Sight → ℕ → Seat
seat_at s j = slice_index_or s.seats j (new_seat s.first)

-- m: whether memory was found; ds: the digests that come beside a word
abbrev pub played : Bool → Sight → Event → List Digest → Sight × Result Report Fault
played m s (At i a) ds = cond (nat_lt i (length s.machines)) (acted m i s (machine_at s i) a) (s, Err Nobody)
played m s (Office j w draw) ds = cond (nat_lt j (length s.seats)) (cond m (judged j s w (office_of true (seat_at s j) w ds draw)) (s, Err NoMemory)) (s, Err Nobody)
played m s (Net j w) ds = cond (nat_lt j (length s.seats)) (judged j s w (net_of (seat_at s j) w)) (s, Err Nobody)
played m s (Fall j) ds = cond (nat_lt j (length s.seats)) (with_seat j (new_seat (seat_at s j).first) s, Ok Done) (s, Err Nobody)
played m s (Write n f g) ds = cond m (with_disk (added true s.disk n f g) s, Ok Done) (s, Err NoMemory)
played m s Wipe ds = (with_disk [] s, Ok Done)
