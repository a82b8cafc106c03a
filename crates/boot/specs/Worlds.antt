-- Which steps of the world starting and loading are.
use Rattle.std.specs.Prelude.{◌≡◌, ℕ, suc, List, [], ◌∷◌, length, Ok, Result}
use Rattle.model.specs.Term as term
use Rattle.model.specs.World.{Programs, World}
use Rattle.model.specs.Effect as effect
use Rattle.model.specs.Step.{Step}
use Rattle.model.specs.Run.{Run}
use Rattle.model.specs.Promise.{Begins}
use Rattle.device.specs.declared.digests.Digest.{Digest}
use Rattle.device.specs.declared.refusals.Refusal.{Refusal}
use Rattle.device.specs.Rows.{words}
use Rattle.device.specs.Worlds as chip
use Rattle.boot.specs.declared.machines.Machine.{Machine}

-- the machine stands for machine a of the world: its chip does, and what it loaded is what was loaded there
pub record Stands (m : Machine) (w : World) (a : ℕ) : Type 0 where
  pub chip_stands : chip.Stands m.chip w a
  pub ran_is : words m.ran ≡ (w.machines a).ran

-- machine a switched on, and then these programs loaded, the latest first
abbrev pub after_row : ℕ → List term.Digest → World → World
after_row a [] w = effect.on_machine a effect.switched w
after_row a (p ∷ ps) w = effect.on_machine a (effect.loaded p) (after_row a ps w)

-- machine n was started from w: the switch, then a step for each program that was loaded; these begin with the first program, and the register says just these
pub record Started (pr : Programs) (w : World) (a : ℕ) (n : Machine) : Type 0 where
  pub run : Run pr (suc (length (words n.ran))) w (after_row a (words n.ran) w)
  pub stands : Stands n (after_row a (words n.ran) w) a
  pub begins : Begins pr (words n.ran)
  pub told : words n.chip.register ≡ words n.ran

abbrev pub Starts : Machine → Digest → Machine × Result (Unit {0}) Refusal → Type 0
Starts m first r = (pr : Programs) (w : World) (a : ℕ) → Stands m w a → first.bytes ≡ pr.first → Started pr w a r.0

-- the program that was loaded last
abbrev pub latest : List term.Digest → term.Digest
latest [] = []
latest (p ∷ ps) = p

-- a further program, which is then the latest
pub record Asks (m : Machine) (r : Result Machine Refusal) : Type 0 where
  pub loads : (pr : Programs) (w : World) (a : ℕ) (n : Machine) → Stands m w a → r ≡ Ok n → Step pr w (effect.on_machine a (effect.loaded (latest (words n.ran))) w) × Stands n (effect.on_machine a (effect.loaded (latest (words n.ran))) w) a
