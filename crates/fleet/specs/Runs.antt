-- Runs of the fleet: events with their reports, one after another, from the making of the fleet on.
use Rattle.std.specs.Prelude.{◌≡◌, ℕ, Bool, true, false, cond, not, List, [], ◌∷◌, length, Option, Ok, Err, Result, nat_lt, refl}
use Rattle.model.specs.World.{World}
use Rattle.model.specs.Effect as effect
use Rattle.model.specs.Effect.{on_judge, made}
use Rattle.model.specs.Run.{Run}
use Rattle.model.specs.Promise.{Judged, Whole}
use Rattle.device.specs.declared.digests.Digest.{Digest}
use Rattle.device.specs.declared.registers.Register.{Register}
use Rattle.device.specs.Rows.{words}
use Rattle.verifier.specs.declared.judges.Reply.{Reply}
use Rattle.verifier.specs.declared.judges.Word.{Word}
use Rattle.verifier.specs.declared.judges.Word.TheVariants as word
use Rattle.verifier.specs.Searches.{some, is_digest}
use Rattle.verifier.specs.Seats.{new_question, office_of, net_of}
use Rattle.verifier.specs.Worlds.{question_of}
use Rattle.fleet.specs.declared.fleets.Act.{Act}
use Rattle.fleet.specs.declared.fleets.Event.{Event}
use Rattle.fleet.specs.declared.fleets.Event.TheVariants.{At, Office, Net, Fall, Write, Wipe}
use Rattle.fleet.specs.declared.fleets.Fault.{Fault}
use Rattle.fleet.specs.declared.fleets.Report.{Report}
use Rattle.fleet.specs.declared.fleets.Report.TheVariants.{Done, Answered, Told, Accepted}
use Rattle.fleet.specs.Makes.{Begins}
use Rattle.fleet.specs.Sights.{Sight, found, machine_at, seat_at, played}
use Rattle.fleet.specs.Worlds.{Setting, drawn, FleetStands, ActAllowed, after_act, WordAllowed, after_word, after_net, Goes}

-- ---- one event

-- what is asked of an event, where there is such a machine or judge; m: whether memory was found
abbrev pub Allowed : Setting → (m : Bool) → Sight → Event → List Digest → World → Type 0
Allowed o m s (At i a) ds w = nat_lt i (length s.machines) ≡ true → ActAllowed o m i (machine_at s i) a w
Allowed o m s (Office j x q) ds w = nat_lt j (length s.seats) ≡ true → m ≡ true → WordAllowed o x (office_of true (seat_at s j) x ds q).1 w
Allowed o m s (Net j x) ds w = nat_lt j (length s.seats) ≡ true → WordAllowed o x (net_of (seat_at s j) x).1 w
Allowed o m s (Fall j) ds w = Unit {0}
Allowed o m s (Write n f g) ds w = Unit {0}
Allowed o m s Wipe ds w = Unit {0}

-- b: whether there is a machine i
abbrev pub after_at : (o : Setting) (m : Bool) (i : ℕ) (s : Sight) (a : Act) (w : World) (b : Bool) → (b ≡ true → ActAllowed o m i (machine_at s i) a w) → World
after_at o m i s a w true h = after_act o m i s (machine_at s i) a w (h refl)
after_at o m i s a w false h = w

abbrev pub after : (o : Setting) (m : Bool) (s : Sight) (e : Event) (ds : List Digest) (w : World) → Allowed o m s e ds w → World
after o m s (At i a) ds w h = after_at o m i s a w (nat_lt i (length s.machines)) h
after o m s (Office j x q) ds w h = cond (nat_lt j (length s.seats)) (cond m (after_word o j (seat_at s j) x ds (office_of true (seat_at s j) x ds q) w) w) w
after o m s (Net j x) ds w h = cond (nat_lt j (length s.seats)) (after_net o j (seat_at s j) x (net_of (seat_at s j) x) w) w
after o m s (Fall j) ds w h = cond (nat_lt j (length s.seats)) (on_judge j (λ _. effect.new_judge) w) w
after o m s (Write n f g) ds w h = w
after o m s Wipe ds w h = w

-- of every fleet and event: the fleet after it stands for a world that is reached by steps
abbrev pub Plays : Type 0
Plays = (o : Setting) (m : Bool) (s : Sight) (e : Event) (ds : List Digest) (w : World) (h : Allowed o m s e ds w) → FleetStands o s w → Goes o (played m s e ds).0 w (after o m s e ds w h)

-- the same of one call: q is the fleet after the event, and what it reports
abbrev pub PlaySteps : Sight → Event → List Digest → Sight × Result Report Fault → Type 0
PlaySteps s e ds q = (o : Setting) (w : World) (h : Allowed o (found q.1) s e ds w) → FleetStands o s w → Goes o q.0 w (after o (found q.1) s e ds w h)

-- ---- many

-- an event, the digests that came beside it, and what was reported
pub record Happening : Type 0 where
  pub event : Event
  pub digests : List Digest
  pub report : Result Report Fault

abbrev pub next : Sight → Happening → Sight
next s p = (played (found p.report) s p.event p.digests).0

-- from s to t, each report is the one that the fleet gives
abbrev pub Ran : Sight → List Happening → Sight → Type 0
Ran s [] t = s ≡ t
Ran s (p ∷ ps) t = (p.report ≡ (played (found p.report) s p.event p.digests).1) × Ran (next s p) ps t

-- each event was allowed when it came
abbrev pub Ready : Setting → Sight → List Happening → World → Type 0
Ready o s [] w = Unit {0}
Ready o s (p ∷ ps) w = (h : Allowed o (found p.report) s p.event p.digests w) × Ready o (next s p) ps (after o (found p.report) s p.event p.digests w h)

-- the world at the end
abbrev pub final : (o : Setting) (s : Sight) (ps : List Happening) (w : World) → Ready o s ps w → World
final o s [] w h = w
final o s (p ∷ ps) w h = final o (next s p) ps (after o (found p.report) s p.event p.digests w h.0) h.1

-- ---- what a report claims

-- P of the row that was accepted, and of what was reported as loaded
abbrev pub OfAccepted : Result Report Fault → (Register → Option Register → Type 0) → Type 0
OfAccepted (Ok Done) P = Unit {0}
OfAccepted (Ok (Answered a)) P = Unit {0}
OfAccepted (Ok (Told x)) P = Unit {0}
OfAccepted (Ok (Accepted x q)) P = P x.row q
OfAccepted (Err f) P = Unit {0}

abbrev pub OfWord : Word → Result Report Fault → (Reply → Register → Option Register → Type 0) → Type 0
OfWord (word.Ask a) r P = Unit {0}
OfWord (word.List n) r P = Unit {0}
OfWord word.Good r P = Unit {0}
OfWord (word.Chip a) r P = Unit {0}
OfWord (word.Ticks n) r P = Unit {0}
OfWord (word.Answer p) r P = OfAccepted r (P p)

-- P of each acceptance: the judge, what it was brought, the row, and what was reported as loaded
abbrev pub OfEvent : Event → Result Report Fault → (ℕ → Reply → Register → Option Register → Type 0) → Type 0
OfEvent (At i a) r P = Unit {0}
OfEvent (Office j x q) r P = OfWord x r (P j)
OfEvent (Net j x) r P = OfWord x r (P j)
OfEvent (Fall j) r P = Unit {0}
OfEvent (Write n f g) r P = Unit {0}
OfEvent Wipe r P = Unit {0}

-- of every run of steps l that leads to the world in which the event came: the judge had this question open, knew the chip and had the row, which was the chip's at a moment of l after the judge asked; and if all in it are good, just these had been loaded
abbrev pub Claim : (o : Setting) → Event → Result Report Fault → {k : ℕ} {w : World} → Run o.programs k made w → Type 0
Claim o e r l = OfEvent e r (λ j p row _. Judged o.programs l (effect.acceptance (question_of (drawn o) j (new_question p.chip p.«data»)) (words row)))

-- what one call reports is true
abbrev pub Tells : Sight → Event → List Digest → Sight × Result Report Fault → Type 0
Tells s e ds q = (o : Setting) (w : World) → Allowed o (found q.1) s e ds w → FleetStands o s w → (k : ℕ) (l : Run o.programs k made w) → Claim o e q.1 l

abbrev pub Claims : (o : Setting) (s : Sight) (ps : List Happening) (w : World) → Ready o s ps w → Type 0
Claims o s [] w h = Unit {0}
Claims o s (p ∷ ps) w h = ((k : ℕ) (l : Run o.programs k made w) → Claim o p.event p.report l) × Claims o (next s p) ps (after o (found p.report) s p.event p.digests w h.0) h.1

-- ---- the promise

-- the world at the end is reached by steps, so that all is promised of it; the fleet stands for it, so that it knows just which secrets outsiders have; and every acceptance that was reported is true
pub record Kept (o : Setting) (s : Sight) (ps : List Happening) (t : Sight) (h : Ready o s ps made) : Type 0 where
  pub steps : ℕ
  pub run : Run o.programs steps made (final o s ps made h)
  pub whole : Whole o.programs run
  pub stands : FleetStands o t (final o s ps made h)
  pub claims : Claims o s ps made h

-- the fleet's bad programs are just those that are not good
abbrev pub Agrees : Setting → Sight → Type 0
Agrees o s = (o.programs.first ≡ s.first.bytes) × ((d : Digest) → o.programs.good d.bytes ≡ not (some (is_digest d) s.bad))

abbrev pub FleetPromise : Type 0
FleetPromise = (o : Setting) (first : Digest) (bad : List Digest) (machines judges : ℕ) (s t : Sight) (ps : List Happening) → Begins first bad machines judges s → Agrees o s → Ran s ps t → (h : Ready o s ps made) → Kept o s ps t h
