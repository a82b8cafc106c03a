-- What contracts see of a stage: the fleet, and what was kept of what it gave out.
use Rattle.std.specs.Prelude.{List}
use Rattle.fleet.specs.Sights.{Sight}
use Rattle.scenes.specs.declared.stages.Kept.{Kept}

-- a stage without its memory; of what was kept, the latest first
pub record Scene : Type 0 where
  pub fleet : Sight
  pub kept : List Kept
