-- What is promised of the whole: of every run from the beginning of the world, and of the world at its end.
use Rattle.std.specs.Prelude.{◌≡◌, true, false, ◌⊎◌, ℕ, ◌+◌, ◌≤◌, ◌<◌, length}
use mathlib.Core.List.{List, [], ◌∷◌, ◌++◌, Memᴰ}
use Rattle.model.specs.Term.{Term, Digest, Sealed, Derives}
use Rattle.model.specs.World.{Programs, Target, For, Nowhere, Thing, Machine, Question, Acceptance, Opening, World, all_good}
use Rattle.model.specs.Effect.{honest, opening, made}
use Rattle.model.specs.Step.{Step}
use Rattle.model.specs.Run.{Run, Moment}

-- ---- forms of statements

-- the row begins with the first program, which stands last, as the latest stands first
abbrev pub Begins : Programs → List Digest → Type 0
Begins pr row = (r : List Digest) × (row ≡ r ++ (pr.first ∷ []))

-- a list stays as it was, or gets one more, of which P holds
abbrev pub OneMore : {A : Type 0} → (A → Type 0) → List A → List A → Type 0
OneMore {A} P old new = (new ≡ old) ⊎ ((x : A) × (new ≡ x ∷ old) × P x)

-- some k steps lead from w to a world of which P holds
abbrev pub Can : Programs → World → ℕ → (World → Type 0) → Type 0
Can pr w k P = (v : World) × Run pr k w v × P v

-- ---- acceptances

-- there was a moment of the run at which the question had been asked, the chip's register was the accepted row, and, if all in the row are good, just these had been loaded since the switch, in this order
pub record Was (pr : Programs) {k : ℕ} {w : World} (l : Run pr k made w) (c : Acceptance) : Type 0 where
  pub moment : Moment pr l
  pub asked_first : Memᴰ c.question moment.world.asked
  pub register_was : (moment.world.machines c.question.chip).register ≡ c.row
  pub ran_was : all_good pr.good c.row ≡ true → (moment.world.machines c.question.chip).ran ≡ c.row

-- at the end of the run the question is open at the judge that asked it, which knows the chip and has the row on its lists; the row begins with the first program, and was the chip's on the way
pub record Judged (pr : Programs) {k : ℕ} {w : World} (l : Run pr k made w) (c : Acceptance) : Type 0 where
  pub is_open : Memᴰ c.question (w.judges c.question.judge).questions
  pub chip_known : Memᴰ c.question.chip (w.judges c.question.judge).chips
  pub row_listed : Memᴰ c.row (w.judges c.question.judge).lists
  pub row_begins : Begins pr c.row
  pub was : Was pr l c

-- the judge knows the chip that it asks, and nobody outside can have had the nonce before
pub record Fresh (w : World) (q : Question) : Type 0 where
  pub chip_known : Memᴰ q.chip (w.judges q.judge).chips
  pub unknown : Derives w.heard (honest q.nonce) → ⊥

pub record Acceptances (pr : Programs) {k : ℕ} {w : World} (l : Run pr k made w) : Type 0 where
  -- a next step adds no acceptance, or one that is judged as above
  pub judged : (v : World) → Step pr w v → OneMore (Judged pr l) w.accepted v.accepted
  -- no question is accepted twice
  pub once : (c e : Acceptance) (newer older : List Acceptance) → w.accepted ≡ newer ++ (c ∷ older) → Memᴰ e older → e.question.nonce ≡ c.question.nonce → ⊥
  -- what was asked and is no longer open is not accepted from now on
  pub never_again : (q : Question) → Memᴰ q w.asked → (Memᴰ q (w.judges q.judge).questions → ⊥) → (i : ℕ) (v : World) → Run pr i w v → (c : Acceptance) → Memᴰ c v.accepted → c.question ≡ q → Memᴰ c w.accepted
  -- a next step asks nothing, or one question with a fresh nonce
  pub asks_fresh : (v : World) → Step pr w v → OneMore (Fresh w) w.asked v.asked

-- ---- secrets

-- the thing was closed for the register and the counter that the machine has
pub record Fits (x : Thing) (m : Machine) : Type 0 where
  pub there : Memᴰ x m.closed
  pub register_fits : x.target ≡ For m.register
  pub counter_fits : x.counter ≡ m.counter

-- there was a moment of the run at which the thing fitted, and a bad program had been loaded
pub record Leaked (pr : Programs) {k : ℕ} {w : World} (l : Run pr k made w) (a : ℕ) (x : Thing) : Type 0 where
  pub moment : Moment pr l
  pub fitted : Fits x (moment.world.machines a)
  pub tainted : all_good pr.good (moment.world.machines a).ran ≡ false

pub record Secrecy (pr : Programs) {k : ℕ} {w : World} (l : Run pr k made w) : Type 0 where
  -- what was drawn for a thing that was closed for good programs alone, or for nowhere, outsiders do not have; as things stay (`Numbers`), they never will
  pub kept : (a : ℕ) (x : Thing) → Memᴰ x (w.machines a).closed → x.secret ≡ true → (row : List Digest) → x.target ≡ For row → all_good pr.good row ≡ true → Derives w.heard x.what → ⊥
  pub kept_nowhere : (a : ℕ) (x : Thing) → Memᴰ x (w.machines a).closed → x.secret ≡ true → x.target ≡ Nowhere → Derives w.heard x.what → ⊥
  -- outsiders have every sealed thing that a chip gave out, and never forget what they could once work out
  pub handed_out : (a : ℕ) (x : Thing) → Memᴰ x (w.machines a).closed → Derives w.heard (Sealed a x.number)
  pub unforgotten : (i : ℕ) (v : World) → Run pr i w v → (t : Term) → Derives w.heard t → Derives v.heard t
  -- whatever it was closed for: outsiders have it only if it once fitted on a machine on which a bad program had been loaded
  pub leaks_only : (a : ℕ) (x : Thing) → Memᴰ x (w.machines a).closed → x.secret ≡ true → Derives w.heard x.what → Leaked pr l a x

-- ---- closing and opening

-- from w to v chip a closed one thing more, for this target and under the counter of now; programs, register and counter stay
pub record Closes (a : ℕ) (r : Target) (w v : World) : Type 0 where
  pub thing : Thing
  pub added : (v.machines a).closed ≡ thing ∷ (w.machines a).closed
  pub target_is : thing.target ≡ r
  pub counter_is : thing.counter ≡ (w.machines a).counter
  pub ran_stays : (v.machines a).ran ≡ (w.machines a).ran
  pub register_stays : (v.machines a).register ≡ (w.machines a).register
  pub counter_stays : (v.machines a).counter ≡ (w.machines a).counter

-- a thing with the number and the counter that the machine has
pub record Next (m : Machine) (x : Thing) : Type 0 where
  pub number_is : x.number ≡ m.number
  pub counter_is : x.counter ≡ m.counter

pub record Openings (pr : Programs) (w : World) : Type 0 where
  -- something newly drawn, or anything that outsiders have, can be closed at once for any target; a next step closes nothing on a chip, or one thing, under the number and the counter of now
  pub closes_secret : (a : ℕ) (r : Target) → Can pr w 1 (λ v. (c : Closes a r w v) × (c.thing.secret ≡ true))
  pub closes_given : (a : ℕ) (r : Target) (t : Term) → Derives w.heard t → Can pr w 1 (λ v. (c : Closes a r w v) × (c.thing.what ≡ t))
  pub closes_only : (v : World) → Step pr w v → (a : ℕ) → OneMore (Next (w.machines a)) (w.machines a).closed (v.machines a).closed
  -- a thing that fits can be opened at once, and if a bad program was loaded outsiders then have what is in it; a next step opens nothing else; nothing closed for nowhere was ever opened
  pub opens_fitting : (a : ℕ) (x : Thing) → Fits x (w.machines a) → Can pr w 1 (λ v. (v.opened ≡ opening a x ∷ w.opened) × (v.machines ≡ w.machines) × (all_good pr.good (w.machines a).ran ≡ false → Derives v.heard x.what))
  pub opens_only : (v : World) → Step pr w v → OneMore (λ p. Fits p.thing (w.machines p.chip)) w.opened v.opened
  pub never_nowhere : (p : Opening) → Memᴰ p w.opened → p.thing.target ≡ Nowhere → ⊥

-- ---- counters and numbers

pub record Counters (pr : Programs) (w : World) : Type 0 where
  -- a counter never falls, and from now on nothing is opened that was closed under a smaller one
  pub counts_up : (a i : ℕ) (v : World) → Run pr i w v → (w.machines a).counter ≤ (v.machines a).counter
  pub no_return : (i : ℕ) (v : World) → Run pr i w v → (p : Opening) → Memᴰ p v.opened → Memᴰ p w.opened ⊎ ((w.machines p.chip).counter ≤ p.thing.counter)
  -- one step raises the counter above that of all that the chip closed, and what runs runs on
  pub outdates : (a : ℕ) → Can pr w 1 (λ v. ((x : Thing) → Memᴰ x (w.machines a).closed → x.counter < (v.machines a).counter) × ((v.machines a).ran ≡ (w.machines a).ran))

pub record Numbers (pr : Programs) (w : World) : Type 0 where
  -- no two things of a chip have one number, and what a chip closed stays as it was closed
  pub numbered : (a : ℕ) (x : Thing) (newer older : List Thing) → (w.machines a).closed ≡ newer ++ (x ∷ older) → (y : Thing) → Memᴰ y older → y.number ≡ x.number → ⊥
  pub stays : (a i : ℕ) (v : World) → Run pr i w v → (x : Thing) → Memᴰ x (w.machines a).closed → Memᴰ x (v.machines a).closed

-- ---- registers

pub record Registers (pr : Programs) (w : World) : Type 0 where
  -- where only good programs were loaded, the register says which; where it says only good ones, just these were loaded
  pub good_told : (a : ℕ) → all_good pr.good (w.machines a).ran ≡ true → (w.machines a).register ≡ (w.machines a).ran
  pub register_true : (a : ℕ) → all_good pr.good (w.machines a).register ≡ true → (w.machines a).ran ≡ (w.machines a).register
  -- the first program is the first of both, unless both are empty
  pub first_runs : (a : ℕ) → (((w.machines a).ran ≡ []) × ((w.machines a).register ≡ [])) ⊎ (Begins pr (w.machines a).ran × Begins pr (w.machines a).register)

-- ---- what can always be done

-- machine a runs this row, and has it in its register; its counter and what it closed are those of w, and so is all that concerns judges
pub record Runs (a : ℕ) (row : List Digest) (w v : World) : Type 0 where
  pub ran_is : (v.machines a).ran ≡ row
  pub register_is : (v.machines a).register ≡ row
  pub counter_stays : (v.machines a).counter ≡ (w.machines a).counter
  pub closed_stays : (v.machines a).closed ≡ (w.machines a).closed
  pub judges_stay : v.judges ≡ w.judges
  pub accepted_stays : v.accepted ≡ w.accepted

-- judge j knows chip a and has this row as a list; the machines are those of w
pub record Learns (a j : ℕ) (row : List Digest) (w v : World) : Type 0 where
  pub chip_known : Memᴰ a (v.judges j).chips
  pub row_listed : Memᴰ row (v.judges j).lists
  pub machines_stay : v.machines ≡ w.machines
  pub accepted_stays : v.accepted ≡ w.accepted

-- from w to v judge j accepted this row of chip a, and nothing else
pub record Shows (a j : ℕ) (row : List Digest) (w v : World) : Type 0 where
  pub acceptance : Acceptance
  pub added : v.accepted ≡ acceptance ∷ w.accepted
  pub judge_is : acceptance.question.judge ≡ j
  pub chip_is : acceptance.question.chip ≡ a
  pub row_is : acceptance.row ≡ row

pub record Liveness (pr : Programs) (w : World) : Type 0 where
  -- any machine can be brought to run any row that begins with the first program; any judge can be brought to know any chip and any such row
  pub runs : (a : ℕ) (r : List Digest) → Can pr w (length r + 2) (Runs a (r ++ (pr.first ∷ [])) w)
  pub learns : (a j : ℕ) (r : List Digest) → Can pr w 2 (Learns a j (r ++ (pr.first ∷ [])) w)
  -- a machine whose chip and row a judge knows can be accepted by it in three steps
  pub shows : (a j : ℕ) → Memᴰ a (w.judges j).chips → Memᴰ (w.machines a).register (w.judges j).lists → Can pr w 3 (λ v. Shows a j (w.machines a).register w v × (v.machines ≡ w.machines))
  -- all of it together: any judge can be brought to accept any such row of any machine
  pub shows_any : (a j : ℕ) (r : List Digest) → Can pr w (length r + 7) (Shows a j (r ++ (pr.first ∷ [])) w)

-- ---- the whole

pub record Whole (pr : Programs) {k : ℕ} {w : World} (l : Run pr k made w) : Type 0 where
  pub acceptances : Acceptances pr l
  pub secrecy : Secrecy pr l
  pub openings : Openings pr w
  pub counters : Counters pr w
  pub numbers : Numbers pr w
  pub registers : Registers pr w
  pub liveness : Liveness pr w

-- all this, whichever programs are good, of every run from the beginning of the world
abbrev pub Main : Type 0
Main = (pr : Programs) (k : ℕ) (w : World) (l : Run pr k made w) → Whole pr l
