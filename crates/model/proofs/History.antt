-- What a step adds to all that was ever asked, accepted and opened: nothing, or one; and that outsiders forget nothing.
use mathlib.Core.Path.{◌≡◌, refl, ap}
use mathlib.Core.Logic.{inl, inr}
use mathlib.Core.List.{List, ◌∷◌, ◌++◌, Memᴰ}
use Prim.Native.Nat.{ℕ, ◌≤◌, ◌<◌}
use native.Mathlib.Omega.{arith}
use Rattle.model.specs.Term.{Term, Sign, Derives}
use Rattle.model.specs.World.{Programs, Question, Acceptance, Opening, World}
use Rattle.model.specs.Effect.{honest, statement}
use Rattle.model.specs.Step.{Opens, Step, switches, boots, loads, puts_only, loads_only, signs, counts, closes, closes_given, passes_over, opens, opens_told, takes_chip, takes_list, asks, puts_out, falls, accepts}
use Rattle.model.specs.Promise.{OneMore, Fits}
use Rattle.model.proofs.Places.{at_same}

-- a question with a nonce that was not drawn before, and is used up then, to a chip that the judge knows
pub record Asks (w v : World) (q : Question) : Type 0 where
  pub new : w.next ≤ q.nonce
  pub used : q.nonce < v.next
  pub chip_known : Memᴰ q.chip (w.judges q.judge).chips

-- an open question of a judge, which is no longer open then, with a list and a signature that outsiders can bring
pub record Takes (w v : World) (c : Acceptance) : Type 0 where
  pub judge : ℕ
  pub newer : List Question
  pub older : List Question
  pub was_open : (w.judges judge).questions ≡ newer ++ (c.question ∷ older)
  pub closed_by_it : (v.judges judge).questions ≡ newer ++ older
  pub chip_known : Memᴰ c.question.chip (w.judges judge).chips
  pub row_listed : Memᴰ c.row (w.judges judge).lists
  pub signed : Derives w.heard (Sign c.question.chip (statement (honest c.question.nonce) c.row))

pub record History (w v : World) : Type 0 where
  pub next_up : w.next ≤ v.next
  pub heard : (t : Term) → Memᴰ t w.heard → Memᴰ t v.heard
  pub asked : OneMore (Asks w v) w.asked v.asked
  pub accepted : OneMore (Takes w v) w.accepted v.accepted
  pub opened : OneMore (λ p. Fits p.thing (w.machines p.chip)) w.opened v.opened

nothing : {w v : World} → w.next ≤ v.next → ((t : Term) → Memᴰ t w.heard → Memᴰ t v.heard) → v.asked ≡ w.asked → v.accepted ≡ w.accepted → v.opened ≡ w.opened → History w v
nothing n h e f g = record { next_up = n; heard = h; asked = inl e; accepted = inl f; opened = inl g }

one_opened : {w v : World} (p : Opening) → v.next ≡ w.next → ((t : Term) → Memᴰ t w.heard → Memᴰ t v.heard) → v.asked ≡ w.asked → v.accepted ≡ w.accepted → v.opened ≡ p ∷ w.opened → Opens p.chip p.thing w → History w v
one_opened p n h e f g o = record { next_up = omega arith; heard = h; asked = inl e; accepted = inl f; opened = inr (p, g, record { there = o.given_out; register_fits = o.target_fits; counter_fits = o.counter_fits }) }

pub history : {pr : Programs} {w v : World} → Step pr w v → History w v
history = elim [
  | switches w a ↦ nothing (omega arith) (λ t m. search Memᴰ.tail) refl refl refl
  | boots w a e ↦ nothing (omega arith) (λ t m. search Memᴰ.tail) refl refl refl
  | loads w a p q qs e ↦ nothing (omega arith) (λ t m. search Memᴰ.tail) refl refl refl
  | puts_only w a p t ↦ nothing (omega arith) (λ t m. search Memᴰ.tail) refl refl refl
  | loads_only w a p t ↦ nothing (omega arith) (λ t m. search Memᴰ.tail) refl refl refl
  | signs w a t d ↦ nothing (omega arith) (λ t m. search Memᴰ.tail) refl refl refl
  | counts w a ↦ nothing (omega arith) (λ t m. search Memᴰ.tail) refl refl refl
  | closes w a r ↦ nothing (omega arith) (λ t m. search Memᴰ.tail) refl refl refl
  | closes_given w a r t d ↦ nothing (omega arith) (λ t m. search Memᴰ.tail) refl refl refl
  | passes_over w a ↦ nothing (omega arith) (λ t m. search Memᴰ.tail) refl refl refl
  | opens w a x o c ↦ one_opened _ refl (λ t m. search Memᴰ.tail) refl refl refl o
  | opens_told w a x o t ↦ one_opened _ refl (λ t m. search Memᴰ.tail) refl refl refl o
  | takes_chip w j a ↦ nothing (omega arith) (λ t m. search Memᴰ.tail) refl refl refl
  | takes_list w j r ↦ nothing (omega arith) (λ t m. search Memᴰ.tail) refl refl refl
  | asks w j a k ↦ record { next_up = omega arith; heard = λ t m. search Memᴰ.tail; asked = inr (_, refl, record { new = omega arith; used = omega arith; chip_known = k }); accepted = inl refl; opened = inl refl }
  | puts_out w j newer older q e ↦ nothing (omega arith) (λ t m. search Memᴰ.tail) refl refl refl
  | falls w j ↦ nothing (omega arith) (λ t m. search Memᴰ.tail) refl refl refl
  | accepts w j newer older q r e k h d ↦ record { next_up = omega arith; heard = λ t m. search Memᴰ.tail; asked = inl refl; accepted = inr (_, refl, record { judge = j; newer = newer; older = older; was_open = e; closed_by_it = ap (λ d. d.questions) (at_same j _ w.judges); chip_known = k; row_listed = h; signed = d }); opened = inl refl }
]
