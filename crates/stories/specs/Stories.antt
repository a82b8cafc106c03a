-- What really ran: along a run of the world that goes with the events, each acceptance is reported with what had been loaded when the chip signed, and that is true of a moment of that run.
use Rattle.std.specs.Prelude.{◌≡◌, ℕ, suc, List, [], ◌∷◌, Some, None, Option, Result}
use mathlib.Core.List.{Memᴰ}
use Rattle.model.specs.World.{Programs, World}
use Rattle.model.specs.Effect.{made}
use Rattle.model.specs.Run.{Run, here, onward, Moment}
use Rattle.device.specs.declared.digests.Digest.{Digest}
use Rattle.device.specs.declared.registers.Register.{Register}
use Rattle.device.specs.Rows.{words}
use Rattle.verifier.specs.declared.judges.Reply.{Reply}
use Rattle.verifier.specs.Seats.{new_question}
use Rattle.verifier.specs.Worlds.{question_of}
use Rattle.fleet.specs.declared.fleets.Event.{Event}
use Rattle.fleet.specs.declared.fleets.Fault.{Fault}
use Rattle.fleet.specs.declared.fleets.Report.{Report}
use Rattle.fleet.specs.Makes.{Begins}
use Rattle.fleet.specs.Sights.{Sight, found}
use Rattle.fleet.specs.Worlds.{Setting, drawn, Goes}
use Rattle.fleet.specs.Runs.{Happening, next, after, Ran, Ready, OfEvent, Agrees}

-- the run l, and then these steps
abbrev pub longer : {pr : Programs} {k : ℕ} {w : World} → Run pr k made w → {j : ℕ} {v : World} → Run pr j w v → (n : ℕ) × Run pr n made v
longer {k = k} l here = (k, l)
longer l (onward m s) = (suc (longer l m).0, onward (longer l m).1 s)

-- at a moment of l the judge had asked, the chip's register was the row, and just these had been loaded
pub record Really (o : Setting) (j : ℕ) (p : Reply) (row ran : Register) {k : ℕ} {w : World} (l : Run o.programs k made w) : Type 0 where
  pub moment : Moment o.programs l
  pub asked_first : Memᴰ (question_of (drawn o) j (new_question p.chip p.«data»)) moment.world.asked
  pub register_was : (moment.world.machines p.chip).register ≡ words row
  pub ran_was : (moment.world.machines p.chip).ran ≡ words ran

-- what really ran is always reported, and P of it
abbrev pub IfRan : Option Register → (Register → Type 0) → Type 0
IfRan None P = ⊥
IfRan (Some r) P = P r

abbrev pub RanClaim : (o : Setting) → Event → Result Report Fault → {k : ℕ} {w : World} → Run o.programs k made w → Type 0
RanClaim o e r l = OfEvent e r (λ j p row ran. IfRan ran (λ x. Really o j p row x l))

-- l leads to the world before the first of these events; each goes on from there
abbrev pub Story : (o : Setting) (s : Sight) (ps : List Happening) (w : World) {k : ℕ} (l : Run o.programs k made w) → Ready o s ps w → Type 0
Story o s [] w l h = Unit {0}
Story o s (p ∷ ps) w l h = RanClaim o p.event p.report l × ((g : Goes o (next s p) w (after o (found p.report) s p.event p.digests w h.0)) × Story o (next s p) ps (after o (found p.report) s p.event p.digests w h.0) (longer l g.run).1 h.1)

abbrev pub FleetStory : Type 0
FleetStory = (o : Setting) (first : Digest) (bad : List Digest) (machines judges : ℕ) (s t : Sight) (ps : List Happening) → Begins first bad machines judges s → Agrees o s → Ran s ps t → (h : Ready o s ps made) → Story o s ps made here h
