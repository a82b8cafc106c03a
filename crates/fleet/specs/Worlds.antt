-- How a world stands for a fleet, what outsiders are taken to bring, and the world after each event.
use Rattle.std.specs.Prelude.{◌≡◌, ℕ, ◌^◌, ◌<◌, Bool, true, false, cond, not, ◌&&◌, List, [], length, Some, None, Option, Ok, Err, Result, ◌==◌, nat_lt, refl}
use mathlib.Core.List.{Memᴰ}
use Rattle.model.specs.Term as term
use Rattle.model.specs.Term.{Term, Derives}
use Rattle.model.specs.World as world
use Rattle.model.specs.World.{Programs, World}
use Rattle.model.specs.Effect as effect
use Rattle.model.specs.Effect.{on_machine, on_judge}
use Rattle.model.specs.Run.{Run}
use Rattle.device.specs.declared.chips.Command.TheVariants as command
use Rattle.device.specs.declared.chips.Thing.{Thing}
use Rattle.device.specs.declared.digests.Data.{Data}
use Rattle.device.specs.declared.digests.Digest.{Digest}
use Rattle.device.specs.declared.refusals.Refusal.{Refusal}
use Rattle.device.specs.Rows.{words}
use Rattle.device.specs.declared.registers.Register.{Register}
use Rattle.device.specs.Things.{same_data, is_row, sealed_by_of}
use Rattle.device.specs.Worlds.{target_of, Holds}
use Rattle.boot.specs.declared.machines.Machine.{Machine}
use Rattle.boot.specs.Starts.{start_of, ask_of}
use Rattle.boot.specs.Worlds as boot
use Rattle.boot.specs.Worlds.{after_row, latest}
use Rattle.verifier.specs.declared.judges.Acceptance.{Acceptance}
use Rattle.verifier.specs.declared.judges.Fault.{Fault as JudgeFault}
use Rattle.verifier.specs.declared.judges.Question.{Question}
use Rattle.verifier.specs.declared.judges.Reply.{Reply}
use Rattle.verifier.specs.declared.judges.Said.{Said}
use Rattle.verifier.specs.declared.judges.Said.TheVariants as said
use Rattle.verifier.specs.declared.judges.Word.{Word}
use Rattle.verifier.specs.declared.judges.Word.TheVariants as word
use Rattle.verifier.specs.Ages.{aged}
use Rattle.verifier.specs.Searches.{some, is_digest}
use Rattle.verifier.specs.Seats.{Seat, new_seat, new_question, office_of, net_of}
use Rattle.verifier.specs.Worlds as verifier
use Rattle.verifier.specs.Worlds.{question_of, questions_of, asked}
use Rattle.fleet.specs.declared.fleets.Act.{Act}
use Rattle.fleet.specs.declared.fleets.Act.TheVariants.{Switch, Start, Load, Give, Keep, Run as RunBad, CutCount, CutClose}
use Rattle.fleet.specs.Sights.{Sight, tainted, machine_at, seat_at, with_seat, acted, judged}

-- what is given with a run: which programs are good, and which drawn bytes are which nonce; one nonce is not two strings of bytes
pub record Setting : Type 0 where
  pub programs : Programs
  pub names : List ℕ → Option ℕ
  pub apart : (b c : List ℕ) (n : ℕ) → names b ≡ Some n → names c ≡ Some n → b ≡ c

-- bytes that nobody drew are a number that everybody can write
abbrev pub term_by : Option ℕ → Term
term_by (Some n) = effect.honest n
term_by None = term.Num 0

abbrev pub term_of : Setting → Data → Term
term_of o d = term_by (o.names d.bytes)

abbrev pub nonce_by : Option ℕ → ℕ
nonce_by (Some n) = n
nonce_by None = 0

abbrev pub drawn : Setting → List ℕ → ℕ
drawn o b = nonce_by (o.names b)

pub record FleetStands (o : Setting) (s : Sight) (w : World) : Type 0 where
  pub first_is : o.programs.first ≡ s.first.bytes
  pub good_is : (d : Digest) → o.programs.good d.bytes ≡ not (some (is_digest d) s.bad)
  pub machines_stand : (i : ℕ) → i < length s.machines → boot.Stands (machine_at s i) w i
  pub seats_stand : (j : ℕ) → j < length s.seats → verifier.Stands (drawn o) (seat_at s j) w j
  pub seats_first : (j : ℕ) → j < length s.seats → (seat_at s j).first ≡ s.first
  -- what outsiders have of what was drawn is just what the fleet has noted
  pub had_noted : (d : Data) (n : ℕ) → o.names d.bytes ≡ Some n → Derives w.heard (effect.honest n) → some (same_data d) s.heard ≡ true
  pub noted_had : (d : Data) (n : ℕ) → o.names d.bytes ≡ Some n → some (same_data d) s.heard ≡ true → Derives w.heard (effect.honest n)

-- ---- what is asked of an event: that what is brought and fits is something that outsiders can have, and that what is drawn is new

-- the thing that was opened is one that the chip gave out
pub record Brought (o : Setting) (i : ℕ) (x : Thing) (w : World) : Type 0 where
  pub thing : world.Thing
  pub given_out : Memᴰ thing (w.machines i).closed
  pub at_hand : Derives w.heard (term.Sealed i thing.number)
  pub holds : Holds x.content thing
  pub inside : thing.what ≡ term_of o x.content.«data»

-- ---- what fits

-- the register has room for one more
abbrev pub room : Register → Bool
room r = nat_lt r.len 16

abbrev pub may_count : Machine → Bool
may_count x = nat_lt x.chip.counter (2 ^ 63)

abbrev pub may_close : Machine → Bool
may_close x = nat_lt x.chip.number (2 ^ 63)

-- seal, row and counter of the thing are those of the chip
abbrev pub fits : Machine → Thing → Bool
fits x y = cond (sealed_by_of x.chip.id y) (cond (is_row y.content.target x.chip.register) (y.content.counter == x.chip.counter) false) false

-- x: the machine at i; m: whether memory was found
abbrev pub ActAllowed : Setting → (m : Bool) (i : ℕ) → Machine → Act → World → Type 0
ActAllowed o m i x Switch w = Unit {0}
ActAllowed o m i x (Start n) w = Unit {0}
ActAllowed o m i x (Load n) w = Unit {0}
ActAllowed o m i x (Give (command.Put d)) w = Unit {0}
ActAllowed o m i x (Give (command.Sign d)) w = m ≡ true → Derives w.heard (term_of o d)
ActAllowed o m i x (Give command.Count) w = Unit {0}
ActAllowed o m i x (Give (command.Close t d)) w = may_close x ≡ true → Derives w.heard (term_of o d)
ActAllowed o m i x (Give (command.Open y)) w = m ≡ true → fits x y ≡ true → Brought o i y w
ActAllowed o m i x (Give command.Read) w = Unit {0}
ActAllowed o m i x (Give command.SwitchedOn) w = Unit {0}
ActAllowed o m i x (Keep t d) w = may_close x ≡ true → o.names d.bytes ≡ Some w.next
ActAllowed o m i x (RunBad d) w = Unit {0}
ActAllowed o m i x (CutCount b) w = Unit {0}
ActAllowed o m i x CutClose w = Unit {0}

-- ---- the world after an event at machine i

abbrev pub after_load : ℕ → Result Machine Refusal → World → World
after_load i (Ok x) w = on_machine i (effect.loaded (latest (words x.ran))) w
after_load i (Err k) w = w

-- b: whether a bad program was loaded
abbrev pub after_open : (b : Bool) (i : ℕ) → world.Thing → World → World
after_open b i y w = cond b (effect.saying y.what (effect.having_opened (effect.opening i y) w)) (effect.having_opened (effect.opening i y) w)

abbrev pub opened_by : (o : Setting) (b : Bool) (i : ℕ) (x : Machine) (y : Thing) (w : World) (f : Bool) → (f ≡ true → Brought o i y w) → World
opened_by o b i x y w true h = after_open b i (h refl).thing w
opened_by o b i x y w false h = w

abbrev pub after_act : (o : Setting) (m : Bool) (i : ℕ) (s : Sight) (x : Machine) (a : Act) (w : World) → ActAllowed o m i x a w → World
after_act o m i s x Switch w h = on_machine i effect.switched w
after_act o m i s x (Start n) w h = after_row i (words (start_of x s.first s.disk n).1.0.ran) w
after_act o m i s x (Load n) w h = after_load i (ask_of x s.disk n).1 w
after_act o m i s x (Give (command.Put d)) w h = cond (tainted s x && room x.chip.register) (on_machine i (effect.put_unloaded d.bytes) w) w
after_act o m i s x (Give (command.Sign d)) w h = cond m (effect.saying (term.Sign i (effect.statement (term_of o d) (w.machines i).register)) w) w
after_act o m i s x (Give command.Count) w h = cond (may_count x) (on_machine i effect.counted w) w
after_act o m i s x (Give (command.Close t d)) w h = cond (may_close x) (effect.giving_out i (effect.thing (target_of t) (term_of o d) false (w.machines i)) w) w
after_act o true i s x (Give (command.Open y)) w h = opened_by o (tainted s x) i x y w (fits x y) (h refl)
after_act o false i s x (Give (command.Open y)) w h = w
after_act o m i s x (Give command.Read) w h = w
after_act o m i s x (Give command.SwitchedOn) w h = w
after_act o m i s x (Keep t d) w h = cond (may_close x) (effect.having_drawn (effect.giving_out i (effect.thing (target_of t) (effect.honest w.next) true (w.machines i)) w)) w
after_act o m i s x (RunBad d) w h = cond (tainted s x && room x.ran) (on_machine i (effect.loaded_unput d.bytes) w) w
after_act o m i s x (CutCount b) w h = on_machine i effect.switched (cond (b && may_count x) (on_machine i effect.counted w) w)
after_act o m i s x CutClose w h = on_machine i effect.switched (cond (may_close x) (on_machine i effect.passed_over w) w)

-- some steps lead from w to v, for which the fleet then stands
pub record Goes (o : Setting) (s : Sight) (w v : World) : Type 0 where
  pub steps : ℕ
  pub run : Run o.programs steps w v
  pub stands : FleetStands o s v

-- every event at a machine
abbrev pub MachineEvents : Type 0
MachineEvents = (o : Setting) (m : Bool) (s : Sight) (i : ℕ) (a : Act) (w : World) (h : ActAllowed o m i (machine_at s i) a w) → i < length s.machines → FleetStands o s w → Goes o (acted m i s (machine_at s i) a).0 w (after_act o m i s (machine_at s i) a w h)

-- ---- the world after a word to judge j

-- v where this was said, else w
abbrev pub when_done : Result Said JudgeFault → World → World → World
when_done (Ok said.Done) v w = v
when_done (Ok (said.Asks a q)) v w = w
when_done (Ok (said.Accepted x)) v w = w
when_done (Err f) v w = w

abbrev pub when_asks : Result Said JudgeFault → World → World → World
when_asks (Ok said.Done) v w = w
when_asks (Ok (said.Asks a q)) v w = v
when_asks (Ok (said.Accepted x)) v w = w
when_asks (Err f) v w = w

abbrev pub when_accepts : Result Said JudgeFault → (Register → World) → World → World
when_accepts (Ok said.Done) v w = w
when_accepts (Ok (said.Asks a q)) v w = w
when_accepts (Ok (said.Accepted x)) v w = v x.row
when_accepts (Err f) v w = w

-- a judge accepts, and has these questions left
abbrev pub accepted_world : Setting → ℕ → Reply → List Question → World → Register → World
accepted_world o j p qs w r = effect.having_accepted (effect.acceptance (question_of (drawn o) j (new_question p.chip p.«data»)) (words r)) (on_judge j (effect.with_questions (questions_of (drawn o) j qs)) w)

-- d: the judge before; r: the judge after, and what it said
abbrev pub after_word : Setting → (j : ℕ) (d : Seat) → Word → List Digest → Seat × Result Said JudgeFault → World → World
after_word o j d (word.Ask a) ds r w = when_asks r.1 (on_judge j (effect.with_questions (asked j a w)) (effect.asking (effect.question j a w) w)) w
after_word o j d (word.List n) ds r w = when_done r.1 (on_judge j (effect.with_list (verifier.latest ds)) w) w
after_word o j d word.Good ds r w = w
after_word o j d (word.Chip a) ds r w = when_done r.1 (on_judge j (effect.with_chip a) w) w
after_word o j d (word.Ticks n) ds r w = on_judge j (effect.with_questions (questions_of (drawn o) j (aged n d.questions))) w
after_word o j d (word.Answer p) ds r w = when_accepts r.1 (accepted_world o j p r.0.questions w) w

-- what a judge asks with was just drawn; a signature that it accepts is one that outsiders can have
abbrev pub WordAllowed : Setting → Word → Result Said JudgeFault → World → Type 0
WordAllowed o (word.Ask a) x w = (b : ℕ) (q : Data) → x ≡ Ok (said.Asks b q) → o.names q.bytes ≡ Some w.next
WordAllowed o (word.List n) x w = Unit {0}
WordAllowed o word.Good x w = Unit {0}
WordAllowed o (word.Chip a) x w = Unit {0}
WordAllowed o (word.Ticks n) x w = Unit {0}
WordAllowed o (word.Answer p) x w = (a : Acceptance) → x ≡ Ok (said.Accepted a) → Derives w.heard (term.Sign p.chip (effect.statement (effect.honest (drawn o p.«data».bytes)) (words p.signature.register)))

-- every word to a judge, by the office's line or by the net
abbrev pub OfficeWords : Type 0
OfficeWords = (o : Setting) (s : Sight) (j : ℕ) (x : Word) (ds : List Digest) (draw : Option Data) (w : World) → j < length s.seats → FleetStands o s w → WordAllowed o x (office_of true (seat_at s j) x ds draw).1 w → Goes o (judged j s x (office_of true (seat_at s j) x ds draw)).0 w (after_word o j (seat_at s j) x ds (office_of true (seat_at s j) x ds draw) w)

-- from the net only answers do anything
abbrev pub after_net : Setting → (j : ℕ) (d : Seat) → Word → Seat × Result Said JudgeFault → World → World
after_net o j d (word.Ask a) r w = w
after_net o j d (word.List n) r w = w
after_net o j d word.Good r w = w
after_net o j d (word.Chip a) r w = w
after_net o j d (word.Ticks n) r w = w
after_net o j d (word.Answer p) r w = after_word o j d (word.Answer p) [] r w

abbrev pub NetWords : Type 0
NetWords = (o : Setting) (s : Sight) (j : ℕ) (x : Word) (w : World) → j < length s.seats → FleetStands o s w → WordAllowed o x (net_of (seat_at s j) x).1 w → Goes o (judged j s x (net_of (seat_at s j) x)).0 w (after_net o j (seat_at s j) x (net_of (seat_at s j) x) w)

abbrev pub JudgeFalls : Type 0
JudgeFalls = (o : Setting) (s : Sight) (j : ℕ) (w : World) → j < length s.seats → FleetStands o s w → Goes o (with_seat j (new_seat (seat_at s j).first) s) w (on_judge j (λ _. effect.new_judge) w)
