-- What each line asks for.
use Rattle.std.specs.Prelude.{ℕ, ◌+◌, Bool, true, false, cond, List, [], ◌∷◌, replicate, Some, None, Ok, Err, Option, Result, nat_lt, slice_set}
use Rattle.device.specs.declared.chips.Command.TheVariants as command
use Rattle.device.specs.declared.chips.Target.{Target}
use Rattle.device.specs.declared.chips.Target.TheVariants as target
use Rattle.device.specs.declared.registers.Register.{Register}
use Rattle.device.specs.Rows.{pushed, empty_register}
use Rattle.boot.specs.declared.disks.File.TheVariants as file
use Rattle.boot.specs.declared.disks.StartList.{StartList}
use Rattle.verifier.specs.declared.judges.Word.{Word}
use Rattle.verifier.specs.declared.judges.Word.TheVariants as word
use Rattle.fleet.specs.declared.fleets.Act.{Act}
use Rattle.fleet.specs.declared.fleets.Act.TheVariants as act
use Rattle.fleet.specs.declared.fleets.Event.TheVariants as event
use Rattle.script.specs.declared.faults.Fault.{Fault}
use Rattle.script.specs.declared.faults.Fault.TheVariants.{TooMany, NoFleet, NotKept}
use Rattle.script.specs.declared.labels.Label.{Label}
use Rattle.script.specs.declared.lines.Line.{Line}
use Rattle.script.specs.declared.lines.Line.TheVariants as line
use Rattle.script.specs.declared.lines.When.{When}
use Rattle.script.specs.declared.lines.When.TheVariants.{Before, After}
use Rattle.script.specs.Labels.{same_label}
use Rattle.scenes.specs.declared.steps.Step.{Step}
use Rattle.scenes.specs.declared.steps.Step.TheVariants.{Fleet, Play, Keep, Open, Answer, Has}
use Rattle.scenes.specs.Names.{digest_of, data_of, name_of, no_target}

-- what follows where there was room
abbrev pub go_on : {A B : Type 0} → Option A → (A → Option B) → Option B
go_on None f = None
go_on (Some x) f = f x

abbrev pub or_too_many : {A : Type 0} → Option A → (A → Step) → Result Step Fault
or_too_many None f = Err TooMany
or_too_many (Some x) f = Ok (f x)

-- ---- rows and start lists

-- the row with these programs more
unfoldable pub row_from : Register → List Label → Option Register
row_from r [] = Some r
row_from r (l ∷ ls) = go_on (pushed r (digest_of l)) (λ q. row_from q ls)

abbrev pub only : List Label → Bool
only [] = false
only (l ∷ []) = same_label l no_target
only (l ∷ k ∷ ls) = false

abbrev pub as_row : Option Register → Option Target
as_row None = None
as_row (Some r) = Some (target.Row r)

-- the row of these programs, or `nowhere`
abbrev pub target_of : List Label → Option Target
target_of ls = cond (only ls) (Some target.Nowhere) (as_row (row_from empty_register ls))

abbrev pub no_names : Bool → StartList
no_names b = record { names = replicate 8 (record { bytes = replicate 16 0 }); count = 0; further = b }

-- the start list with one name more
abbrev pub added_name : StartList → Label → Option StartList
added_name s l = cond (nat_lt s.count 8) (Some (record { names = slice_set s.names s.count (name_of l); count = s.count + 1; further = s.further })) None

unfoldable pub names_from : StartList → List Label → Option StartList
names_from s [] = Some s
names_from s (l ∷ ls) = go_on (added_name s l) (λ t. names_from t ls)

-- ---- steps

abbrev pub at_of : ℕ → Act → Step
at_of i a = Play (event.At i a)

-- the same, where what comes of it is kept
abbrev pub kept_of : ℕ → Act → Label → Step
kept_of i a n = Keep (event.At i a) n

abbrev pub office_of : ℕ → Word → Step
office_of j w = Play (event.Office j w None)

-- a program under its own name, and what stands there once it was read
abbrev pub file_of : Label → Label → Step
file_of l k = Play (event.Write (name_of l) (file.Program (digest_of l)) (file.Program (digest_of k)))

-- itself, where no other is named
abbrev pub then_of : Label → Option Label → Label
then_of l None = l
then_of l (Some k) = k

abbrev pub written_of : Label → StartList → Step
written_of l s = Play (event.Write (name_of l) (file.List s) (file.List s))

-- with the name of a further list, if there is one
abbrev pub with_further : Option Label → StartList → Option StartList
with_further None s = Some s
with_further (Some k) s = added_name s k

abbrev pub is_further : Option Label → Bool
is_further None = false
is_further (Some k) = true

-- a start list of these programs, and of the other name if a further list follows
abbrev pub list_of : Label → Option Label → List Label → Result Step Fault
list_of l o ls = or_too_many (go_on (names_from (no_names (is_further o)) ls) (with_further o)) (written_of l)

abbrev pub is_after : When → Bool
is_after Before = false
is_after After = true

-- the step of a line with these programs
abbrev pub step_of : Line → List Label → Result Step Fault
step_of (line.Fleet m j) ps = Ok (Fleet m j)
step_of line.Wipe ps = Ok (Play event.Wipe)
step_of (line.File l o) ps = Ok (file_of l (then_of l o))
step_of (line.List l o) ps = list_of l o ps
step_of (line.Switch i) ps = Ok (at_of i act.Switch)
step_of (line.Start i l) ps = Ok (at_of i (act.Start (name_of l)))
step_of (line.Load i l) ps = Ok (at_of i (act.Load (name_of l)))
step_of (line.Put i l) ps = Ok (at_of i (act.Give (command.Put (digest_of l))))
step_of (line.Run i l) ps = Ok (at_of i (act.Run (digest_of l)))
step_of (line.Sign i l n) ps = Ok (kept_of i (act.Give (command.Sign (data_of l))) n)
step_of (line.Count i) ps = Ok (at_of i (act.Give command.Count))
step_of (line.Read i) ps = Ok (at_of i (act.Give command.Read))
step_of (line.Keep i l n) ps = or_too_many (target_of ps) (λ t. kept_of i (act.Keep t (data_of l)) n)
step_of (line.Close i l n) ps = or_too_many (target_of ps) (λ t. kept_of i (act.Give (command.Close t (data_of l))) n)
step_of (line.Open i n) ps = Ok (Open i n)
step_of (line.CutCount i b) ps = Ok (at_of i (act.CutCount (is_after b)))
step_of (line.CutClose i) ps = Ok (at_of i act.CutClose)
step_of (line.Chip j a) ps = Ok (office_of j (word.Chip a))
step_of (line.Good j) ps = Ok (office_of j word.Good)
step_of (line.Rows j n) ps = Ok (office_of j (word.List n))
step_of (line.Ticks j n) ps = Ok (office_of j (word.Ticks n))
step_of (line.Ask j a l) ps = Ok (Play (event.Office j (word.Ask a) (Some (data_of l))))
step_of (line.Answer j a l n k) ps = Ok (Answer j a (data_of l) n k)
step_of (line.Fall j) ps = Ok (Play (event.Fall j))
step_of (line.Net j a) ps = Ok (Play (event.Net j (word.Chip a)))
step_of (line.Has l) ps = Ok (Has (data_of l))
