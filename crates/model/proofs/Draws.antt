-- What every nonce was drawn for.
use mathlib.Core.Path.{◌≡◌, refl, sym, ap, subst, ◌∙◌}
use mathlib.Core.Bool.{true}
use mathlib.Core.Logic.{◌⊎◌, inl, inr}
use mathlib.Core.List.{List, Memᴰ}
use Prim.Native.Nat.{ℕ, suc, ◌≤◌}
use native.Mathlib.Omega.{arith}
use Rattle.model.specs.World.{Thing, Question}
use Rattle.model.specs.Effect.{at, honest}
use Rattle.model.proofs.Places.{at_all, at_same}

-- what a nonce was drawn for: for a question, or to be closed in a thing of chip a
pub data Purpose : Type 0 where
  Undrawn : Purpose
  ToAsk : Question → Purpose
  ToClose : (a : ℕ) → Thing → Purpose

-- the purpose of nonce n was carried out
abbrev pub Done : (closed : ℕ → List Thing) (asked : List Question) → ℕ → Purpose → Type 0
Done closed asked n Undrawn = Unit {0}
Done closed asked n (ToAsk q) = Memᴰ q asked × (q.nonce ≡ n)
Done closed asked n (ToClose a x) = Memᴰ x (closed a) × (x.secret ≡ true) × (x.what ≡ honest n)

pub record Draws (closed : ℕ → List Thing) (asked : List Question) (next : ℕ) : Type 0 where
  pub purpose : ℕ → Purpose
  pub done : (n : ℕ) → Done closed asked n (purpose n)
  pub undrawn : (n : ℕ) → next ≤ n → purpose n ≡ Undrawn
  pub asked_for : (q : Question) → Memᴰ q asked → purpose q.nonce ≡ ToAsk q
  pub closed_for : (a : ℕ) (x : Thing) → Memᴰ x (closed a) → x.secret ≡ true → (n : ℕ) × (x.what ≡ honest n) × (purpose n ≡ ToClose a x)

-- the new purposes are the old ones, but where nothing was drawn
abbrev pub Extends : (old new : ℕ → Purpose) → Type 0
Extends old new = (n : ℕ) → (old n ≡ new n) ⊎ (old n ≡ Undrawn)

-- ---- what a step draws

pub done_on : {c d : ℕ → List Thing} {q r : List Question} → ((a : ℕ) (x : Thing) → Memᴰ x (c a) → Memᴰ x (d a)) → ((z : Question) → Memᴰ z q → Memᴰ z r) → (n : ℕ) (p : Purpose) → Done c q n p → Done d r n p
done_on f g n Undrawn h = tt
done_on f g n (ToAsk q) h = (g q h.0, h.1)
done_on f g n (ToClose a x) h = (f a x h.0, h.1, h.2)

-- nothing was drawn: what is new among the things is not secret
abbrev pub draws_none : {c d : ℕ → List Thing} {q r : List Question} {n k : ℕ} → ((a : ℕ) (x : Thing) → Memᴰ x (c a) → Memᴰ x (d a)) → ((a : ℕ) (x : Thing) → Memᴰ x (d a) → x.secret ≡ true → Memᴰ x (c a)) → r ≡ q → k ≡ n → Draws c q n → Draws d r k
draws_none {q = q} {r = r} {n} {k} grow back e f o =
    record {
      purpose = o.purpose;
      done = λ m. done_on grow (λ z h. subst (λ l. Memᴰ z l) (sym e) h) m (o.purpose m) (o.done m);
      undrawn = λ m up. o.undrawn m (omega arith);
      asked_for = λ z h. o.asked_for z (subst (λ l. Memᴰ z l) e h);
      closed_for = λ a x h t. o.closed_for a x (back a x h t) t;
    }

-- nonce n was drawn for p
module _ {c : ℕ → List Thing} {q : List Question} {n : ℕ} (o : Draws c q n) (p : Purpose) where
  abbrev pub purposes : ℕ → Purpose
  purposes = at n p o.purpose

  pub purpose_kept : (m : ℕ) (y : Purpose) → (y ≡ Undrawn → ⊥) → o.purpose m ≡ y → purposes m ≡ y
  purpose_kept m y drawn = at_all (λ k z. o.purpose k ≡ y → z ≡ y) n p o.purpose (λ e. absurd (drawn (sym e ∙ o.undrawn n (omega arith)))) (λ k _ e. e) m

  abbrev pub draws_one : {d : ℕ → List Thing} {r : List Question} {k : ℕ} → k ≡ suc n → ((a : ℕ) (x : Thing) → Memᴰ x (c a) → Memᴰ x (d a)) → ((z : Question) → Memᴰ z q → Memᴰ z r) → Done d r n p → ((z : Question) → Memᴰ z r → Memᴰ z q ⊎ ((z.nonce ≡ n) × (p ≡ ToAsk z))) → ((a : ℕ) (x : Thing) → Memᴰ x (d a) → x.secret ≡ true → Memᴰ x (c a) ⊎ ((x.what ≡ honest n) × (p ≡ ToClose a x))) → Draws d r k
  draws_one {d} {r} {k} on grow more new asked-case closed-case =
      record {
        purpose = purposes;
        done = at_all (λ m y. Done d r m y) n p o.purpose new (λ m _. done_on grow more m (o.purpose m) (o.done m));
        undrawn = at_all (λ m y. k ≤ m → y ≡ Undrawn) n p o.purpose (λ up. absurd (omega arith)) (λ m _ up. o.undrawn m (omega arith));
        asked_for = λ z h. for_question z (asked-case z h);
        closed_for = λ a x h t. for_thing a x t (closed-case a x h t);
      }
    where
      for_question : (z : Question) → Memᴰ z q ⊎ ((z.nonce ≡ n) × (p ≡ ToAsk z)) → purposes z.nonce ≡ ToAsk z
      for_question z (inl h) = purpose_kept z.nonce (ToAsk z) (λ e. grind arith) (o.asked_for z h)
      for_question z (inr (e, f)) = ap purposes e ∙ at_same n p o.purpose ∙ f

      for_thing : (a : ℕ) (x : Thing) → x.secret ≡ true → Memᴰ x (c a) ⊎ ((x.what ≡ honest n) × (p ≡ ToClose a x)) → (m : ℕ) × (x.what ≡ honest m) × (purposes m ≡ ToClose a x)
      for_thing a x t (inl h) = let (m, e, f) = o.closed_for a x h t in (m, e, purpose_kept m (ToClose a x) (λ z. grind arith) f)
      for_thing a x t (inr (e, f)) = (n, e, at_same n p o.purpose ∙ f)

  pub purposes_extend : Extends o.purpose purposes
  purposes_extend = at_all (λ m y. (o.purpose m ≡ y) ⊎ (o.purpose m ≡ Undrawn)) n p o.purpose (inr (o.undrawn n (omega arith))) (λ m _. inl refl)
