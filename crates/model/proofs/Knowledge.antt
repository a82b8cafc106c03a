-- What outsiders can work out: a predicate on terms that holds of all that was heard holds of all that follows from it.
use mathlib.Core.List.{List, Memᴰ}
use Prim.Native.Nat.{ℕ, ◌+◌, ◌*◌}
use Rattle.model.specs.Term.{Term, Num, Nonce, Row, Pair, Sign, Sealed, Derives, has, num, own_nonce, row, pair, left, right, signed}

-- N holds of each nonce that can be taken out of the term, and S of each signature
abbrev pub Safe : (ℕ → Type 0) → (ℕ → Term → Type 0) → Term → Type 0
Safe N S (Num n) = Unit {0}
Safe N S (Nonce n) = N n
Safe N S (Row ps) = Unit {0}
Safe N S (Pair s t) = Safe N S s × Safe N S t
Safe N S (Sign a t) = S a t × Safe N S t
Safe N S (Sealed a n) = Unit {0}

pub derives_safe : (N : ℕ → Type 0) (S : ℕ → Term → Type 0) {heard : List Term} {t : Term} → ((n : ℕ) → N (n * 2 + 1)) → ((u : Term) → Memᴰ u heard → Safe N S u) → Derives heard t → Safe N S t
derives_safe N S {t = t} own all (has m) = all t m
derives_safe N S own all (num n) = tt
derives_safe N S own all (own_nonce n) = own n
derives_safe N S own all (row ps) = tt
derives_safe N S own all (pair d e) = (derives_safe N S own all d, derives_safe N S own all e)
derives_safe N S own all (left d) = (derives_safe N S own all d).0
derives_safe N S own all (right d) = (derives_safe N S own all d).1
derives_safe N S own all (signed d) = (derives_safe N S own all d).1

pub safe_map : {N M : ℕ → Type 0} {S R : ℕ → Term → Type 0} → ((n : ℕ) → N n → M n) → ((a : ℕ) (t : Term) → S a t → R a t) → (t : Term) → Safe N S t → Safe M R t
safe_map f g (Num n) h = tt
safe_map f g (Nonce n) h = f n h
safe_map f g (Row ps) h = tt
safe_map f g (Pair s t) h = (safe_map f g s h.0, safe_map f g t h.1)
safe_map f g (Sign a t) h = (g a t h.0, safe_map f g t h.1)
safe_map f g (Sealed a n) h = tt

-- hearing more, one can work out no less
pub derives_more : {old new : List Term} {t : Term} → ((u : Term) → Memᴰ u old → Memᴰ u new) → Derives old t → Derives new t
derives_more {t = t} f (has m) = has (f t m)
derives_more f (num n) = num n
derives_more f (own_nonce n) = own_nonce n
derives_more f (row ps) = row ps
derives_more f (pair d e) = pair (derives_more f d) (derives_more f e)
derives_more f (left d) = left (derives_more f d)
derives_more f (right d) = right (derives_more f d)
derives_more f (signed d) = signed (derives_more f d)
