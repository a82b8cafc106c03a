-- What holds of ChaCha20 for all lists of numbers; only `bytes` asks that the text is bytes, and `parts` that the counter has 32 bits.
use Rattle.std.specs.Prelude.{◌≡◌, ℕ, ◌+◌, ◌*◌, ◌%◌, ◌^◌, ◌<◌, List, ◌++◌, length, slice_index}
use Rattle.cipher.specs.Blocks.{block}
use Rattle.cipher.specs.Streams.{chacha20}

pub record Laws (key nonce : List ℕ) (counter : ℕ) : Type 0 where
  pub block_length : length (block key counter nonce) ≡ 64
  pub block_bytes : (i : ℕ) → slice_index (block key counter nonce) i < 256
  pub same_length : (text : List ℕ) → length (chacha20 key counter nonce text) ≡ length text
  pub back : (text : List ℕ) → chacha20 key counter nonce (chacha20 key counter nonce text) ≡ text
  pub bytes : (text : List ℕ) → ((i : ℕ) → slice_index text i < 256) → (i : ℕ) → slice_index (chacha20 key counter nonce text) i < 256
  -- a text may be turned in parts, if those before the last are whole blocks
  pub parts : (n : ℕ) (front rest : List ℕ) → counter < 2 ^ 32 → length front ≡ 64 * n → chacha20 key counter nonce (front ++ rest) ≡ chacha20 key counter nonce front ++ chacha20 key ((counter + n) % 2 ^ 32) nonce rest

abbrev pub Every : Type 0
Every = (key nonce : List ℕ) (counter : ℕ) → Laws key nonce counter
