-- Messages as terms, and what outsiders can work out from those they have. Signing and sealing are perfect here: no rule of `Derives` makes a signature or a sealed thing, and none looks into a sealed thing.
use mathlib.Core.List.{List, Memᴰ}
use Rattle.std.specs.Prelude.{ℕ, ◌+◌, ◌*◌}

-- a program is known by its digest, a list of numbers: two programs with one digest are one program here
abbrev pub Digest : Type 0
Digest = List ℕ

-- Num: a number that everybody can write
-- Nonce: a number that somebody drew, and that nobody can guess
-- Row: a row of programs, the latest first
-- Sign chip t: t, signed by the chip
-- Sealed chip number: what the chip gave out when it closed something under this number
pub data Term : Type 0 where
  Num : ℕ → Term
  Nonce : ℕ → Term
  Row : List Digest → Term
  Pair : Term → Term → Term
  Sign : (chip : ℕ) → Term → Term
  Sealed : (chip number : ℕ) → Term

-- whoever has heard these terms can work this one out; the odd nonces are the outsiders' own; what is signed can be read
pub data Derives (heard : List Term) : Term → Type 0 where
  has : {t : Term} → Memᴰ t heard → Derives heard t
  num : (n : ℕ) → Derives heard (Num n)
  own_nonce : (n : ℕ) → Derives heard (Nonce (n * 2 + 1))
  row : (ps : List Digest) → Derives heard (Row ps)
  pair : {s t : Term} → Derives heard s → Derives heard t → Derives heard (Pair s t)
  left : {s t : Term} → Derives heard (Pair s t) → Derives heard s
  right : {s t : Term} → Derives heard (Pair s t) → Derives heard t
  signed : {a : ℕ} {t : Term} → Derives heard (Sign a t) → Derives heard t
