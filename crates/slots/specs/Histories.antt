-- What happens to a chip's two places over any sequence of commands and power losses.
use Rattle.std.specs.Prelude.{◌≡◌, ℕ, suc, ◌+◌, ◌^◌, ◌<◌, ◌≤◌, Bool, false, cond, ◌⊎◌, List, [], ◌∷◌, length, Some, None, Option, nat_lt}
use Rattle.slots.specs.Places.{Places, other, at_side, with_place, place_of, fits, latest, new_places}
use Rattle.slots.specs.declared.marks.Act.{Act}
use Rattle.slots.specs.declared.marks.Act.TheVariants.{Counting, Closing}
use Rattle.slots.specs.declared.marks.Marks.{Marks}
use Rattle.slots.specs.declared.marks.Side.{Side}

-- what is written for an act
abbrev pub next : Act → Marks → Marks
next Counting m = record { counter = suc m.counter; number = m.number }
next Closing m = record { counter = m.counter; number = suc m.number }

-- an act is refused where its counter, or its number, is at 2^63
abbrev pub may : Act → Marks → Bool
may Counting m = nat_lt m.counter (2 ^ 63)
may Closing m = nat_lt m.number (2 ^ 63)

-- a chip between two events: its places, and where it is switched on and a place fits, what it holds in memory
pub record Chip : Type 0 where
  pub places : Places
  pub live : Option (Side × Marks)

-- On: switched off and on; Does: the act is done and answered; Cut: power is lost while it writes, which leaves this in the place that it writes to
pub data Event : Type 0 where
  On : Event
  Does : Act → Event
  Cut : Act → List ℕ → Event

-- a write goes over the place that does not hold the latest
abbrev pub written : Chip → Act → Side → Marks → Chip
written c a s m = record { places = with_place (other s) (place_of (next a m)) c.places; live = Some (other s, next a m) }

abbrev pub doing : Chip → Act → Option (Side × Marks) → Chip
doing c a None = c
doing c a (Some (s, m)) = cond (may a m) (written c a s m) c

-- q: what the write leaves
abbrev pub cutting : Chip → Act → List ℕ → Option (Side × Marks) → Chip
cutting c a q None = record { places = c.places; live = None }
cutting c a q (Some (s, m)) = record { places = cond (may a m) (with_place (other s) q c.places) c.places; live = None }

abbrev pub after : Chip → Event → Chip
after c On = record { places = c.places; live = latest c.places }
after c (Does a) = doing c a c.live
after c (Cut a q) = cutting c a q c.live

-- ---- what a cut write leaves: what was there, the new, or what fits no sum

abbrev pub CutLeaves : Chip → Act → List ℕ → Option (Side × Marks) → Type 0
CutLeaves c a q None = Unit {0}
CutLeaves c a q (Some (s, m)) = ((q ≡ at_side (other s) c.places) ⊎ (q ≡ place_of (next a m))) ⊎ (fits q ≡ false)

abbrev pub Leaves : Chip → Event → Type 0
Leaves c On = Unit {0}
Leaves c (Does a) = Unit {0}
Leaves c (Cut a q) = CutLeaves c a q c.live

-- each event in turn
abbrev pub finally : Chip → List Event → Chip
finally c [] = c
finally c (e ∷ es) = finally (after c e) es

abbrev pub AllLeave : Chip → List Event → Type 0
AllLeave c [] = Unit {0}
AllLeave c (e ∷ es) = Leaves c e × AllLeave (after c e) es

-- ---- what is told

-- the thing's number where a closing is answered
abbrev pub given_by : Act → Option (Side × Marks) → List ℕ → List ℕ
given_by a None ns = ns
given_by Counting (Some (s, m)) ns = ns
given_by Closing (Some (s, m)) ns = cond (may Closing m) (m.number ∷ ns) ns

-- numbers of the things that were given out, the latest first
abbrev pub given : Chip → List Event → List ℕ → List ℕ
given c [] ns = ns
given c (On ∷ es) ns = given (after c On) es ns
given c (Does a ∷ es) ns = given (after c (Does a)) es (given_by a c.live ns)
given c (Cut a q ∷ es) ns = given (after c (Cut a q)) es ns

-- the counter that was told last, and how many counts were cut since
abbrev pub told_by : Act → Option (Side × Marks) → ℕ × ℕ → ℕ × ℕ
told_by a None t = t
told_by Counting (Some (s, m)) t = cond (may Counting m) (suc m.counter, 0) t
told_by Closing (Some (s, m)) t = t

abbrev pub cut_by : Act → Option (Side × Marks) → ℕ × ℕ → ℕ × ℕ
cut_by a None t = t
cut_by Counting (Some (s, m)) t = (t.0, suc t.1)
cut_by Closing (Some (s, m)) t = t

abbrev pub told : Chip → List Event → ℕ × ℕ → ℕ × ℕ
told c [] t = t
told c (On ∷ es) t = told (after c On) es t
told c (Does a ∷ es) t = told (after c (Does a)) es (told_by a c.live t)
told c (Cut a q ∷ es) t = told (after c (Cut a q)) es (cut_by a c.live t)

-- how many closings were cut
abbrev pub closings_cut : List Event → ℕ
closings_cut [] = 0
closings_cut (On ∷ es) = closings_cut es
closings_cut (Does a ∷ es) = closings_cut es
closings_cut (Cut Counting q ∷ es) = closings_cut es
closings_cut (Cut Closing q ∷ es) = suc (closings_cut es)

-- no two are the same: each is less than the one given out after it
abbrev pub Falling : ℕ → List ℕ → Type 0
Falling n [] = Unit {0}
Falling n (m ∷ ms) = (m < n) × Falling m ms

-- ---- the promise, of a chip as it is made

abbrev pub new_chip : Chip
new_chip = record { places = new_places; live = None }

-- after any events, switched on: a place fits (so 6 never comes); the counter is the one told last, or more by at most the counts that were cut since; the things given out have different numbers, all below the next, which is no more than the things given out and the closings cut
pub record Kept (es : List Event) : Type 0 where
  pub side : Side
  pub marks : Marks
  pub fitting : latest (finally new_chip es).places ≡ Some (side, marks)
  pub counter_up : (told new_chip es (0, 0)).0 ≤ marks.counter
  pub counter_near : marks.counter ≤ (told new_chip es (0, 0)).0 + (told new_chip es (0, 0)).1
  pub apart : Falling marks.number (given new_chip es [])
  pub number_near : marks.number ≤ length (given new_chip es []) + closings_cut es

abbrev pub Survives : Type 0
Survives = (es : List Event) → AllLeave new_chip es → Kept es
