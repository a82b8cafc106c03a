-- Steps one after another, and the moments that a run goes through.
use Rattle.std.specs.Prelude.{ℕ, suc}
use Rattle.model.specs.World.{Programs, World}
use Rattle.model.specs.Effect.{made}
use Rattle.model.specs.Step.{Step}

-- so many steps, one after another, from one world to another
pub data Run (pr : Programs) : ℕ → World → World → Type 0 where
  here : {w : World} → Run pr 0 w w
  onward : {k : ℕ} {w u v : World} → Run pr k w u → Step pr u v → Run pr (suc k) w v

-- the run m, from the beginning of the world, is the start of another: that one is m, or m with more steps after it
pub data Prefix {pr : Programs} {i : ℕ} {u : World} (m : Run pr i made u) : (k : ℕ) (w : World) → Run pr k made w → Type 0 where
  ends_here : Prefix m i u m
  goes_on : {k : ℕ} {w v : World} {l : Run pr k made w} → Prefix m k w l → (s : Step pr w v) → Prefix m (suc k) v (onward l s)

-- a moment of the run l, which may be its beginning or its end: the world that there was then, and the start of l that led to it
pub record Moment (pr : Programs) {k : ℕ} {w : World} (l : Run pr k made w) : Type 0 where
  pub steps : ℕ
  pub world : World
  pub reached : Run pr steps made world
  pub on_way : Prefix reached k w l
