-- Which step of the world each command is.
use Rattle.std.specs.Prelude.{◌≡◌, ℕ, suc, Bool, true, false, List, [], ◌∷◌, Ok, Result}
use mathlib.Core.List.{Memᴰ}
use Rattle.model.specs.Term as term
use Rattle.model.specs.Term.{Term, Derives}
use Rattle.model.specs.World as world
use Rattle.model.specs.World.{Programs, World}
use Rattle.model.specs.Effect as effect
use Rattle.model.specs.Step.{Step, Clean, Tainted}
use Rattle.device.specs.declared.chips.Chip.{Chip}
use Rattle.device.specs.declared.chips.Command.{Command}
use Rattle.device.specs.declared.chips.Command.TheVariants.{Put, Sign, Count, Close, Open, Read, SwitchedOn}
use Rattle.device.specs.declared.chips.Answer.{Answer}
use Rattle.device.specs.declared.chips.Answer.TheVariants.{Done, Signed, Counter, Closed, Opened}
use Rattle.device.specs.declared.chips.Target.{Target}
use Rattle.device.specs.declared.chips.Target.TheVariants.{Row, Nowhere}
use Rattle.device.specs.declared.chips.Content.{Content}
use Rattle.device.specs.declared.chips.Thing.{Thing}
use Rattle.device.specs.declared.digests.Data.{Data}
use Rattle.device.specs.declared.digests.Digest.{Digest}
use Rattle.device.specs.declared.refusals.Refusal.{Refusal}
use Rattle.device.specs.Rows.{words}
use Rattle.device.specs.Things.{sealed_by_of}
use Rattle.device.specs.Commands.{sealed, content}

-- ---- a chip stands for the chip of a machine

pub record Like (c : Chip) (m : world.Machine) : Type 0 where
  pub register_is : words c.register ≡ m.register
  pub counter_is : c.counter ≡ m.counter
  pub number_is : c.number ≡ m.number

pub record Stands (c : Chip) (w : World) (a : ℕ) : Type 0 where
  pub is : c.id ≡ a
  pub like : Like c (w.machines a)

-- a step from w to v, after which the chip stands for that of machine a
abbrev pub Moves : Programs → World → ℕ → Chip → World → Type 0
Moves pr w a c v = Step pr w v × Stands c v a

-- what a target means in the world
abbrev pub target_of : Target → world.Target
target_of (Row r) = world.For (words r)
target_of Nowhere = world.Nowhere

-- the content of a thing is that of the world's thing; what is inside it is said where the thing is closed
pub record Holds (x : Content) (y : world.Thing) : Type 0 where
  pub number_is : x.number ≡ y.number
  pub target_is : target_of x.target ≡ y.target
  pub counter_is : x.counter ≡ y.counter

-- ---- which step a command is, of every world for which the chip stands

-- switching on
pub record Switches (c r : Chip) : Type 0 where
  pub switches : (pr : Programs) (w : World) (a : ℕ) → Stands c w a → Moves pr w a r (effect.on_machine a effect.switched w)

-- what is answered, or why the chip refuses; where it refuses, the chip stays as it is
abbrev pub Reply : Type 0
Reply = Result (Chip × Answer) Refusal

-- putting in: the start of the first program, the load of another, or, where a bad program was loaded, a digest alone
pub record Puts (c : Chip) (d : Digest) (r : Reply) : Type 0 where
  pub boots : (pr : Programs) (w : World) (a : ℕ) (n : Chip) → Stands c w a → r ≡ Ok (n, Done) → (w.machines a).ran ≡ [] → d.bytes ≡ pr.first → Moves pr w a n (effect.on_machine a (effect.loaded pr.first) w)
  pub loads : (pr : Programs) (w : World) (a : ℕ) (n : Chip) (q : term.Digest) (qs : List term.Digest) → Stands c w a → r ≡ Ok (n, Done) → (w.machines a).ran ≡ q ∷ qs → Moves pr w a n (effect.on_machine a (effect.loaded d.bytes) w)
  pub puts_only : (pr : Programs) (w : World) (a : ℕ) (n : Chip) → Stands c w a → r ≡ Ok (n, Done) → Tainted pr (w.machines a) → Moves pr w a n (effect.on_machine a (effect.put_unloaded d.bytes) w)

-- signing: what outsiders have, with the register of now
pub record Signs (c : Chip) (d : Data) (r : Reply) : Type 0 where
  pub signs : (pr : Programs) (w : World) (a : ℕ) (t : Term) → Stands c w a → Derives w.heard t → Moves pr w a c (effect.saying (term.Sign a (effect.statement t (w.machines a).register)) w)
  pub answers : r ≡ Ok (c, Signed (record { chip = c.id; «data» = d; register = c.register }))

-- counting: the counter that is told is the new one
pub record Counts (c : Chip) (r : Reply) : Type 0 where
  pub counts : (pr : Programs) (w : World) (a : ℕ) (n : Chip) (k : ℕ) → Stands c w a → r ≡ Ok (n, Counter k) → Moves pr w a n (effect.on_machine a effect.counted w) × (k ≡ suc (w.machines a).counter)

-- closing: what was just drawn, or what outsiders have; where power is lost before the answer, the number is used up
pub record Closes (c : Chip) (t : Target) (d : Data) (r : Reply) : Type 0 where
  pub closes : (pr : Programs) (w : World) (a : ℕ) (n : Chip) (x : Thing) → Stands c w a → r ≡ Ok (n, Closed x) → Moves pr w a n (effect.having_drawn (effect.giving_out a (effect.thing (target_of t) (effect.honest w.next) true (w.machines a)) w))
  pub closes_given : (pr : Programs) (w : World) (a : ℕ) (s : Term) (n : Chip) (x : Thing) → Stands c w a → r ≡ Ok (n, Closed x) → Derives w.heard s → Moves pr w a n (effect.giving_out a (effect.thing (target_of t) s false (w.machines a)) w)
  pub passes_over : (pr : Programs) (w : World) (a : ℕ) (n : Chip) (x : Thing) → Stands c w a → r ≡ Ok (n, Closed x) → Moves pr w a n (effect.on_machine a effect.passed_over w)
  -- the thing that is given out has the next number and the counter of now, and the chip's seal
  pub gives : (w : World) (a : ℕ) (s : Term) (secret : Bool) (n : Chip) (x : Thing) → Stands c w a → r ≡ Ok (n, Closed x) → (x ≡ sealed c.id (content c t d)) × Holds x.content (effect.thing (target_of t) s secret (w.machines a))

-- opening: a thing that the chip closed, for the register and the counter of now
pub record Opens (c : Chip) (x : Thing) (r : Reply) : Type 0 where
  pub opens : (pr : Programs) (w : World) (a : ℕ) (y : world.Thing) (n : Chip) (d : Data) → Stands c w a → r ≡ Ok (n, Opened d) → Holds x.content y → Memᴰ y (w.machines a).closed → Derives w.heard (term.Sealed a y.number) → Clean pr (w.machines a) → Moves pr w a n (effect.having_opened (effect.opening a y) w)
  pub opens_told : (pr : Programs) (w : World) (a : ℕ) (y : world.Thing) (n : Chip) (d : Data) → Stands c w a → r ≡ Ok (n, Opened d) → Holds x.content y → Memᴰ y (w.machines a).closed → Derives w.heard (term.Sealed a y.number) → Tainted pr (w.machines a) → Moves pr w a n (effect.saying y.what (effect.having_opened (effect.opening a y) w))
  -- what is told is the thing's data, and it is told exactly if the seal, the register and the counter fit
  pub tells : (n : Chip) (d : Data) → r ≡ Ok (n, Opened d) → d ≡ x.content.«data»
  pub opens_fitting : (w : World) (a : ℕ) (y : world.Thing) → Stands c w a → Holds x.content y → sealed_by_of c.id x ≡ true → y.target ≡ world.For (w.machines a).register → y.counter ≡ (w.machines a).counter → r ≡ Ok (c, Opened x.content.«data»)

abbrev pub Steps : Chip → Command → Reply → Type 0
Steps c (Put d) r = Puts c d r
Steps c (Sign d) r = Signs c d r
Steps c Count r = Counts c r
Steps c (Close t d) r = Closes c t d r
Steps c (Open x) r = Opens c x r
Steps c Read r = (n : Chip) (x : Answer) → r ≡ Ok (n, x) → n ≡ c
Steps c SwitchedOn r = (n : Chip) (x : Answer) → r ≡ Ok (n, x) → ⊥
