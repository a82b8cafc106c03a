-- What each step does to a stage, and what comes of it.
use Rattle.std.specs.Prelude.{◌≡◌, ℕ, Bool, true, cond, List, [], ◌∷◌, Some, None, Ok, Err, Option, Result}
use Rattle.device.specs.declared.chips.Answer.{Answer}
use Rattle.device.specs.declared.chips.Answer.TheVariants as answer
use Rattle.device.specs.declared.chips.Command.TheVariants as command
use Rattle.device.specs.declared.chips.Signature.{Signature}
use Rattle.device.specs.declared.chips.Thing.{Thing}
use Rattle.device.specs.declared.digests.Data.{Data}
use Rattle.device.specs.declared.digests.Digest.{Digest}
use Rattle.device.specs.Things.{same_data}
use Rattle.verifier.specs.declared.judges.Word.TheVariants as word
use Rattle.verifier.specs.Searches.{some}
use Rattle.fleet.specs.declared.fleets.Act.TheVariants as act
use Rattle.fleet.specs.declared.fleets.Event.{Event}
use Rattle.fleet.specs.declared.fleets.Event.TheVariants as event
use Rattle.fleet.specs.declared.fleets.Fault.{Fault as FleetFault}
use Rattle.fleet.specs.declared.fleets.Report.{Report}
use Rattle.fleet.specs.declared.fleets.Report.TheVariants as report
use Rattle.fleet.specs.Makes.{Begins}
use Rattle.fleet.specs.Sights.{Sight, found, played}
use Rattle.script.specs.declared.faults.Fault.{Fault}
use Rattle.script.specs.declared.faults.Fault.TheVariants as fault
use Rattle.script.specs.declared.labels.Label.{Label}
use Rattle.script.specs.Labels.{same_label}
use Rattle.script.specs.Labels as labels
use Rattle.scenes.specs.declared.stages.Kept.{Kept}
use Rattle.scenes.specs.declared.stages.Outcome.{Outcome}
use Rattle.scenes.specs.declared.stages.Outcome.TheVariants as outcome
use Rattle.scenes.specs.declared.steps.Step.{Step}
use Rattle.scenes.specs.declared.steps.Step.TheVariants as step
use Rattle.scenes.specs.Kept.{Scene}
use Rattle.scenes.specs.Names.{first_of}

-- a new fleet, and nothing kept
pub record Opens (bad : List Digest) (machines judges : ℕ) (s : Scene) : Type 0 where
  pub begins : Begins first_of bad machines judges s.fleet
  pub empty : s.kept ≡ []

-- ---- copies

-- the latest under this name
unfoldable pub latest : Label → List Kept → Option Answer
latest n [] = None
latest n (k ∷ ks) = cond (same_label k.name n) (Some k.answer) (latest n ks)

abbrev pub thing_in : Option Answer → Option Thing
thing_in None = None
thing_in (Some answer.Done) = None
thing_in (Some (answer.Signed g)) = None
thing_in (Some (answer.Counter n)) = None
thing_in (Some (answer.Closed y)) = Some y
thing_in (Some (answer.Opened d)) = None
thing_in (Some (answer.Now n r)) = None

abbrev pub signature_in : Option Answer → Option Signature
signature_in None = None
signature_in (Some answer.Done) = None
signature_in (Some (answer.Signed g)) = Some g
signature_in (Some (answer.Counter n)) = None
signature_in (Some (answer.Closed y)) = None
signature_in (Some (answer.Opened d)) = None
signature_in (Some (answer.Now n r)) = None

-- what is kept of a report: a signature or a thing
abbrev pub copy_in : Result Report FleetFault → Option Answer
copy_in (Ok report.Done) = None
copy_in (Ok (report.Answered answer.Done)) = None
copy_in (Ok (report.Answered (answer.Signed g))) = Some (answer.Signed g)
copy_in (Ok (report.Answered (answer.Counter n))) = None
copy_in (Ok (report.Answered (answer.Closed y))) = Some (answer.Closed y)
copy_in (Ok (report.Answered (answer.Opened d))) = None
copy_in (Ok (report.Answered (answer.Now n r))) = None
copy_in (Ok (report.Told x)) = None
copy_in (Ok (report.Accepted x o)) = None
copy_in (Err f) = None

abbrev pub with_copy : Label → Option Answer → List Kept → List Kept
with_copy n None ks = ks
with_copy n (Some a) ks = record { name = n; answer = a } ∷ ks

abbrev pub with_fleet : Sight → Scene → Scene
with_fleet x s = record { fleet = x; kept = s.kept }

-- ---- steps

-- whether memory was found for a copy
abbrev pub met : Result Outcome Fault → Bool
met r = labels.met r

-- whether the fleet found memory
abbrev pub found_in : Result Outcome Fault → Bool
found_in (Ok (outcome.Reported r)) = found r
found_in (Ok (outcome.Has b)) = true
found_in (Err e) = true

-- what the fleet reports, f: whether it found memory
abbrev pub reported : Bool → Scene → Event → List Digest → Scene × Result Outcome Fault
reported f s e ds = (with_fleet (played f s.fleet e ds).0 s, Ok (outcome.Reported (played f s.fleet e ds).1))

-- the same with a copy of it
abbrev pub copied : Label → Scene → Sight × Result Report FleetFault → Scene × Result Outcome Fault
copied n s q = (record { fleet = q.0; kept = with_copy n (copy_in q.1) s.kept }, Ok (outcome.Reported q.1))

-- m: whether memory was found for the copy
abbrev pub kept_by : Bool → Bool → Scene → Event → Label → Scene × Result Outcome Fault
kept_by m f s e n = cond m (copied n s (played f s.fleet e [])) (s, Err fault.NoMemory)

abbrev pub opened_by : Bool → Scene → ℕ → Option Thing → Scene × Result Outcome Fault
opened_by f s i None = (s, Err fault.NotKept)
opened_by f s i (Some y) = reported f s (event.At i (act.Give (command.Open y))) []

abbrev pub answered_by : Bool → Scene → ℕ → ℕ → Data → ℕ → Option Signature → Scene × Result Outcome Fault
answered_by f s j a d n None = (s, Err fault.NotKept)
answered_by f s j a d n (Some g) = reported f s (event.Net j (word.Answer (record { chip = a; «data» = d; list = n; signature = g }))) []

-- what a step does to a scene that has a fleet, and what comes of it
abbrev pub taken : Bool → Bool → Scene → Step → List Digest → Scene × Result Outcome Fault
taken m f s (step.Fleet x y) ds = (s, Err fault.Shape)
taken m f s (step.Play e) ds = reported f s e ds
taken m f s (step.Keep e n) ds = kept_by m f s e n
taken m f s (step.Open i n) ds = opened_by f s i (thing_in (latest n s.kept))
taken m f s (step.Answer j a d l n) ds = answered_by f s j a d l (signature_in (latest n s.kept))
taken m f s (step.Has d) ds = (s, Ok (outcome.Has (some (same_data d) s.fleet.heard)))

-- a refused step changes nothing
abbrev pub Refuses : Scene → Scene → Result Outcome Fault → Type 0
Refuses s t (Ok o) = Unit {0}
Refuses s t (Err e) = t ≡ s

-- the same of a stage that may not be there yet
abbrev pub Keeps : Option Scene → Option Scene → Result Outcome Fault → Type 0
Keeps s t (Ok o) = Unit {0}
Keeps s t (Err e) = t ≡ s
