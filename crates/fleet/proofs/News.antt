-- What outsiders learn of drawn numbers when one term more is said.
use Rattle.std.proofs.Common.{◌≡◌, ℕ, ◌+◌, ◌*◌, List, ◌∷◌, sym, refl, subst, arith}
use mathlib.Core.List.{Memᴰ}
use Rattle.model.specs.Term.{Term, Num, Nonce, Row, Pair, Sign, Sealed, Derives, has, left, right, signed}
use Rattle.model.specs.Effect.{honest}
use Rattle.model.proofs.Knowledge.{Safe, derives_safe}

abbrev pub Any : ℕ → Term → Type 0
Any a t = Unit {0}

-- what can be taken out of a term that outsiders have, they have
had_safe : (N : ℕ → Type 0) (heard : List Term) → ((k : ℕ) → Derives heard (Nonce k) → N k) → (t : Term) → Derives heard t → Safe N Any t
had_safe N heard old (Num n) d = tt
had_safe N heard old (Nonce n) d = old n d
had_safe N heard old (Row r) d = tt
had_safe N heard old (Pair s t) d = (had_safe N heard old s (left d), had_safe N heard old t (right d))
had_safe N heard old (Sign a t) d = (tt, had_safe N heard old t (signed d))
had_safe N heard old (Sealed a n) d = tt

-- one term more: of each nonce that follows, N
news : (N : ℕ → Type 0) (heard : List Term) (t : Term) → ((n : ℕ) → N (n * 2 + 1)) → ((k : ℕ) → Derives heard (Nonce k) → N k) → Safe N Any t → (k : ℕ) → Derives (t ∷ heard) (Nonce k) → N k
news N heard t own old safe k d = derives_safe N Any own (λ u m. each u m) d
  where
    each : (u : Term) → Memᴰ u (t ∷ heard) → Safe N Any u
    each u (Memᴰ.head e) = subst (λ z. Safe N Any z) (sym e) safe
    each u (Memᴰ.tail m) = had_safe N heard old u (has m)

-- of drawn numbers: what P holds of that was known, or is said now
pub drawn_news : (P : ℕ → Type 0) (heard : List Term) (t : Term) → ((n : ℕ) → Derives heard (honest n) → P n) → Safe (λ k. (n : ℕ) → Nonce k ≡ honest n → P n) Any t → (n : ℕ) → Derives (t ∷ heard) (honest n) → P n
drawn_news P heard t old safe n d = news (λ k. (n : ℕ) → Nonce k ≡ honest n → P n) heard t (λ k i e. absurd (grind arith)) (λ k h i e. old i (subst (λ u. Derives heard u) e h)) safe (n * 2) d n refl

-- what outsiders have already is no news
pub no_news : (P : ℕ → Type 0) (heard : List Term) (t : Term) → ((n : ℕ) → Derives heard (honest n) → P n) → Derives heard t → Safe (λ k. (n : ℕ) → Nonce k ≡ honest n → P n) Any t
no_news P heard t old d = had_safe (λ k. (n : ℕ) → Nonce k ≡ honest n → P n) heard (λ k h i e. old i (subst (λ u. Derives heard u) e h)) t d
