-- Two rows with one sum are two texts with one hash, or a text whose hash is 32 zeros: for any hash of 32 bytes.
use Rattle.std.specs.Prelude.{◌≡◌, ℕ, ◌⊎◌, List, [], ◌∷◌, length}
use Rattle.hash.specs.Sha256.{sha256}
use Rattle.sums.specs.Sums.{zeros, sum_by, sum_of}

-- each has 32 bytes
abbrev pub Digests : List (List ℕ) → Type 0
Digests [] = Unit {0}
Digests (d ∷ ds) = (length d ≡ 32) × Digests ds

-- two texts with one hash
pub record Clash (h : List ℕ → List ℕ) : Type 0 where
  pub one : List ℕ
  pub other : List ℕ
  pub differ : one ≡ other → ⊥
  pub same : h one ≡ h other

-- a text whose hash is 32 zeros
pub record Zeros (h : List ℕ → List ℕ) : Type 0 where
  pub one : List ℕ
  pub is : h one ≡ zeros

abbrev pub Colliding : Type 0
Colliding = (h : List ℕ → List ℕ) → ((x : List ℕ) → length (h x) ≡ 32) → (r s : List (List ℕ)) → Digests r → Digests s → sum_by h r ≡ sum_by h s → (r ≡ s) ⊎ (Clash h ⊎ Zeros h)

-- of the register's own hash
abbrev pub Sha256Collides : Type 0
Sha256Collides = (r s : List (List ℕ)) → Digests r → Digests s → sum_of r ≡ sum_of s → (r ≡ s) ⊎ (Clash sha256 ⊎ Zeros sha256)
