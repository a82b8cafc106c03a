-- What a hasher holds once it has taken a message.
use Rattle.std.specs.Prelude.{ℕ, ◌+◌, ◌*◌, ◌/◌, ◌%◌, ◌^◌, List, ◌++◌, length, drop}
use Rattle.std.specs.List.{flat_map}
use Rattle.hash.specs.Blocks.{filled}
use Rattle.hash.specs.Sha256.{absorbed, initial, padding}
use Rattle.hash.specs.Words.{be32}
use Rattle.hash.specs.declared.hashers.Hasher.{Hasher}

-- what is left of m after its whole blocks
abbrev pub rest : List ℕ → List ℕ
rest m = drop (length m / 64 * 64) m

unfoldable pub after : List ℕ → Hasher
after m = record { h = absorbed initial m; tail = filled (rest m); len = length m % 2 ^ 64 }

-- the digest of a message of n bytes whose first blocks have led to the hash value h, and t is the rest
unfoldable pub closed : List ℕ → List ℕ → ℕ → List ℕ
closed h t n = flat_map be32 (absorbed h (t ++ padding n))

-- the same where n bytes were taken before m
abbrev pub finished : List ℕ → ℕ → List ℕ → List ℕ
finished h n m = closed h m (n + length m)
