-- Runs and their moments: what was stays.
use mathlib.Core.List.{Memᴰ}
use Prim.Native.Nat.{ℕ, suc, ◌+◌, ◌≤◌}
use native.Mathlib.Nat.{add-zero, add-suc}
use native.Mathlib.Omega.{arith}
use Rattle.model.specs.World.{Programs, Thing, Question, World}
use Rattle.model.specs.Effect.{made}
use Rattle.model.specs.Step.{Step}
use Rattle.model.specs.Run.{Run, here, onward, Prefix, ends_here, goes_on, Moment}
use Rattle.model.proofs.Lists.{keeps}
use Rattle.model.proofs.Machines.{moves}
use Rattle.model.proofs.History.{history}

-- what every step keeps, every run keeps
pub all_along : {pr : Programs} (P : World → Type 0) → ((w v : World) → Step pr w v → P w → P v) → {k : ℕ} {w v : World} → Run pr k w v → P w → P v
all_along P f here p = p
all_along P f (onward {u = u} {v = v} l s) p = f u v s (all_along P f l p)

pub join : {pr : Programs} {j k : ℕ} {u v w : World} → Run pr j u v → Run pr k v w → Run pr (j + k) u w
join l here = rw add-zero l
join l (onward m s) = rw add-suc (onward (join l m) s)

pub asked_along : {pr : Programs} {k : ℕ} {w v : World} (q : Question) → Run pr k w v → Memᴰ q w.asked → Memᴰ q v.asked
asked_along q = all_along (λ u. Memᴰ q u.asked) (λ w v s m. keeps (history s).asked m)

pub closed_along : {pr : Programs} {k : ℕ} {w v : World} (a : ℕ) (x : Thing) → Run pr k w v → Memᴰ x (w.machines a).closed → Memᴰ x (v.machines a).closed
closed_along a x = all_along (λ u. Memᴰ x (u.machines a).closed) (λ w v s m. keeps (moves s a).closed_more m)

pub counter_along : {pr : Programs} {k : ℕ} {w v : World} (a n : ℕ) → Run pr k w v → n ≤ (w.machines a).counter → n ≤ (v.machines a).counter
counter_along a n = all_along (λ u. n ≤ (u.machines a).counter) (λ w v s up. let more : (w.machines a).counter ≤ (v.machines a).counter = (moves s a).counter_up in omega arith)

-- ---- moments

-- the end of a run
abbrev pub now : {pr : Programs} {k : ℕ} {w : World} (l : Run pr k made w) → Moment pr l
now {k = k} {w = w} l = record { steps = k; world = w; reached = l; on_way = ends_here }

-- a moment of a run is one of any longer run
abbrev pub then : {pr : Programs} {k : ℕ} {w v : World} {l : Run pr k made w} (s : Step pr w v) → Moment pr l → Moment pr (onward l s)
then s m = record { steps = m.steps; world = m.world; reached = m.reached; on_way = goes_on m.on_way s }

-- the rest of a run, from a moment on
pub since : {pr : Programs} {i : ℕ} {u : World} {m : Run pr i made u} {k : ℕ} {w : World} {l : Run pr k made w} → Prefix m k w l → (j : ℕ) × Run pr j u w
since ends_here = (0, here)
since (goes_on p s) = let (j, l) = since p in (suc j, onward l s)
