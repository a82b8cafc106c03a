-- HMAC-SHA-256 of a key and a message (RFC 2104, section 2; RFC 6234, section 8.3).
use Rattle.std.specs.Prelude.{ℕ, cond, List, ◌++◌, map, length, bit_xor, nat_lt}
use Rattle.hash.specs.Blocks.{filled}
use Rattle.hash.specs.Sha256.{sha256}

-- the key as a block: a key longer than a block is hashed first
abbrev pub key_block : List ℕ → List ℕ
key_block k = filled (cond (nat_lt 64 (length k)) (sha256 k) k)

abbrev pub xored : List ℕ → ℕ → List ℕ
xored bs p = map (λ b. bit_xor b p) bs

unfoldable pub inner_pad : List ℕ → List ℕ
inner_pad k = xored (key_block k) 0x36

unfoldable pub outer_pad : List ℕ → List ℕ
outer_pad k = xored (key_block k) 0x5c

unfoldable pub hmac : List ℕ → List ℕ → List ℕ
hmac k m = sha256 (outer_pad k ++ sha256 (inner_pad k ++ m))
