-- Which steps of the world each word is.
use Rattle.std.specs.Prelude.{◌≡◌, ℕ, suc, ◌-◌, List, [], ◌∷◌, ◌++◌, map, reverse, length, take, drop, Some, Option, Ok, Err, Result}
use mathlib.Core.List.{Memᴰ}
use Rattle.model.specs.Term as term
use Rattle.model.specs.Term.{Derives}
use Rattle.model.specs.World as world
use Rattle.model.specs.World.{Programs, World}
use Rattle.model.specs.Effect as effect
use Rattle.model.specs.Effect.{on_judge}
use Rattle.model.specs.Step.{Step}
use Rattle.model.specs.Run.{Run}
use Rattle.device.specs.declared.digests.Data.{Data}
use Rattle.device.specs.declared.digests.Digest.{Digest}
use Rattle.device.specs.declared.refusals.Refusal.{Refusal}
use Rattle.device.specs.Rows.{words}
use Rattle.verifier.specs.declared.judges.Acceptance.{Acceptance}
use Rattle.verifier.specs.declared.judges.Fault.{Fault}
use Rattle.verifier.specs.declared.judges.Fault.TheVariants.{Refused, NoMemory}
use Rattle.verifier.specs.declared.judges.Question.{Question}
use Rattle.verifier.specs.declared.judges.Reply.{Reply}
use Rattle.verifier.specs.declared.judges.Word.{Word}
use Rattle.verifier.specs.declared.judges.Word.TheVariants as word
use Rattle.verifier.specs.declared.judges.Word.TheVariants.{Ask, Good, Chip, Ticks, Answer}
use Rattle.verifier.specs.declared.judges.Said.{Said}
use Rattle.verifier.specs.declared.judges.Said.TheVariants.{Done, Asks, Accepted}
use Rattle.verifier.specs.Ages.{aged, outdated}
use Rattle.verifier.specs.Rows.{flags}
use Rattle.verifier.specs.Seats.{Seat, new_question, listed}

-- ---- a judge by value stands for a judge of the world

-- drawn: which nonce of the world these drawn bytes are
abbrev pub question_of : (List ℕ → ℕ) → ℕ → Question → world.Question
question_of drawn j q = record { judge = j; chip = q.chip; nonce = drawn q.«data».bytes }

abbrev pub questions_of : (List ℕ → ℕ) → ℕ → List Question → List world.Question
questions_of drawn j qs = map (question_of drawn j) qs

pub record Stands (drawn : List ℕ → ℕ) (s : Seat) (w : World) (j : ℕ) : Type 0 where
  pub chips_are : s.chips ≡ (w.judges j).chips
  pub lists_are : map (λ l. words l.row) s.lists ≡ (w.judges j).lists
  pub questions_are : questions_of drawn j s.questions ≡ (w.judges j).questions

-- a new judge stands for a new judge
abbrev pub Begins : Seat → Type 0
Begins s = (drawn : List ℕ → ℕ) (w : World) (j : ℕ) → w.judges j ≡ effect.new_judge → Stands drawn s w j

-- a step from w to v, after which the judge stands
abbrev pub Moves : Programs → (List ℕ → ℕ) → World → ℕ → Seat → World → Type 0
Moves pr drawn w j s v = Step pr w v × Stands drawn s v j

-- the same with n steps
abbrev pub Goes : ℕ → Programs → (List ℕ → ℕ) → World → ℕ → Seat → World → Type 0
Goes n pr drawn w j s v = Run pr n w v × Stands drawn s v j

-- ---- which steps a word is, of every world for which the judge stands

-- a chip is given
pub record TakesChip (s : Seat) (a : ℕ) (r : Seat × Result Said Fault) : Type 0 where
  pub takes : (pr : Programs) (drawn : List ℕ → ℕ) (w : World) (j : ℕ) → Stands drawn s w j → r.1 ≡ Ok Done → Moves pr drawn w j r.0 (on_judge j (effect.with_chip a) w)

-- digests as the model has a row of them: the latest first
abbrev pub latest : List Digest → List term.Digest
latest ds = map (λ d. d.bytes) (reverse ds)

-- a list is given: it ends, as the model has it, with the first program
pub record TakesList (s : Seat) (ds : List Digest) (r : Seat × Result Said Fault) : Type 0 where
  pub begins : r.1 ≡ Ok Done → latest ds ≡ latest (drop 1 ds) ++ (s.first.bytes ∷ [])
  pub takes : (pr : Programs) (drawn : List ℕ → ℕ) (w : World) (j : ℕ) → pr.first ≡ s.first.bytes → Stands drawn s w j → r.1 ≡ Ok Done → Moves pr drawn w j r.0 (on_judge j (effect.with_list (latest ds)) w)

-- the office's list is no matter of the world
pub record Stays (s : Seat) (r : Seat × Result Said Fault) : Type 0 where
  pub stays : (drawn : List ℕ → ℕ) (w : World) (j : ℕ) → Stands drawn s w j → Stands drawn r.0 w j

-- time passes: each question that is too old is put out
pub record PutsOut (s : Seat) (n : ℕ) (r : Seat × Result Said Fault) : Type 0 where
  pub puts_out : (pr : Programs) (drawn : List ℕ → ℕ) (w : World) (j : ℕ) → Stands drawn s w j → Goes (outdated n s.questions) pr drawn w j r.0 (on_judge j (effect.with_questions (questions_of drawn j (aged n s.questions))) w)

-- the questions that are open after one more, of which 64 stay
abbrev pub asked : (j a : ℕ) → World → List world.Question
asked j a w = take 64 (effect.question j a w ∷ (w.judges j).questions)

-- a chip is asked, with what was just drawn; then each question beyond 64 is put out
pub record Asking (s : Seat) (a : ℕ) (draw : Option Data) (r : Seat × Result Said Fault) : Type 0 where
  pub asks : (pr : Programs) (drawn : List ℕ → ℕ) (w : World) (j b : ℕ) (d : Data) → Stands drawn s w j → r.1 ≡ Ok (Asks b d) → drawn d.bytes ≡ w.next → Goes (suc (suc (length s.questions) - 64)) pr drawn w j r.0 (on_judge j (effect.with_questions (asked j a w)) (effect.asking (effect.question j a w) w))
  pub tells : (b : ℕ) (d : Data) → r.1 ≡ Ok (Asks b d) → (b ≡ a) × (draw ≡ Some d)

-- an answer is accepted, if what is brought was signed by the chip
pub record Accepts (s : Seat) (p : Reply) (r : Seat × Result Said Fault) : Type 0 where
  pub accepts : (pr : Programs) (drawn : List ℕ → ℕ) (w : World) (j : ℕ) (x : Acceptance) → Stands drawn s w j → r.1 ≡ Ok (Accepted x) → Derives w.heard (term.Sign p.chip (effect.statement (effect.honest (drawn p.«data».bytes)) (words p.signature.register))) → Moves pr drawn w j r.0 (effect.having_accepted (effect.acceptance (question_of drawn j (new_question p.chip p.«data»)) (words x.row)) (on_judge j (effect.with_questions (questions_of drawn j r.0.questions)) w))
  -- what is said is the list that was asked for, which the judge has, and it is what was signed
  pub tells : (x : Acceptance) → r.1 ≡ Ok (Accepted x) → (x.list ≡ p.list) × Memᴰ (record { number = x.list; row = x.row }) s.lists × (words x.row ≡ words p.signature.register) × (x.flags ≡ flags (listed s.good) x.row)

-- a judge falls
pub record Falls (s r : Seat) : Type 0 where
  pub falls : (pr : Programs) (drawn : List ℕ → ℕ) (w : World) (j : ℕ) → Stands drawn s w j → Moves pr drawn w j r (on_judge j (λ _. effect.new_judge) w)

abbrev pub OfficeSteps : Seat → Word → List Digest → Option Data → Seat × Result Said Fault → Type 0
OfficeSteps s (Ask a) ds draw r = Asking s a draw r
OfficeSteps s (word.List n) ds draw r = TakesList s ds r
OfficeSteps s Good ds draw r = Stays s r
OfficeSteps s (Chip a) ds draw r = TakesChip s a r
OfficeSteps s (Ticks n) ds draw r = PutsOut s n r
OfficeSteps s (Answer p) ds draw r = Accepts s p r

abbrev pub NetSteps : Seat → Word → Seat × Result Said Fault → Type 0
NetSteps s (Ask a) r = r.0 ≡ s
NetSteps s (word.List n) r = r.0 ≡ s
NetSteps s Good r = r.0 ≡ s
NetSteps s (Chip a) r = r.0 ≡ s
NetSteps s (Ticks n) r = r.0 ≡ s
NetSteps s (Answer p) r = Accepts s p r

-- a refusal changes nothing
abbrev pub Refuses : Seat → Seat × Result Said Fault → Type 0
Refuses s r = (k : Refusal) → r.1 ≡ Err (Refused k) → r.0 ≡ s

-- nor does want of memory
abbrev pub Lacks : Seat → Seat × Result Said Fault → Type 0
Lacks s r = r.1 ≡ Err NoMemory → r.0 ≡ s
