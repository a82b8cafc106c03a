-- Encryption with ChaCha20, RFC 8439, 2.4. Decryption is the same function.
use Rattle.std.specs.Prelude.{ℕ, zero, suc, ◌+◌, ◌/◌, ◌%◌, ◌^◌, List, [], ◌++◌, length, bit_xor}
use Rattle.std.specs.Simd.Lanes.{zip2}
use Rattle.cipher.specs.Blocks.{block}

-- the counter of the next block; it has 32 bits, and after the last comes 0
abbrev pub next : ℕ → ℕ
next counter = (counter + 1) % 2 ^ 32

-- n blocks one after the other
unfoldable pub keystream : List ℕ → ℕ → List ℕ → ℕ → List ℕ
keystream key counter nonce zero = []
keystream key counter nonce (suc n) = block key counter nonce ++ keystream key (next counter) nonce n

-- as many blocks as it takes; what is left of the last is not used
unfoldable pub chacha20 : List ℕ → ℕ → List ℕ → List ℕ → List ℕ
chacha20 key counter nonce text = zip2 bit_xor text (keystream key counter nonce ((length text + 63) / 64))
