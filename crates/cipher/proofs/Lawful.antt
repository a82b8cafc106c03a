-- The laws of ChaCha20.
use Rattle.std.proofs.Common.{◌≡◌, ℕ, zero, suc, ◌+◌, ◌*◌, ◌/◌, ◌%◌, ◌^◌, ◌<◌, ◌≤◌, List, [], ◌∷◌, ◌++◌, length, get_or, ap, ◌∙◌, arith}
use lib.Bits.{bit_xor}
use lib.Lanes.{zip2, Each1}
use Rattle.std.proofs.lemmas.List.{take_at, drop_at}
use Rattle.cipher.specs.Streams.{next, keystream, chacha20}
use Rattle.cipher.specs.Laws.{Every}
use Rattle.cipher.proofs.Keystreams.{advanced, enough, split}
use Rattle.cipher.proofs.Lengths.{length_block, length_keystream, bytes_block, bytes_keystream}
use Rattle.cipher.proofs.Zips.{length-zip2, zip2_back, zip2_below}

module _ (key nonce : List ℕ) (counter : ℕ) where
  long_enough : (text : List ℕ) → length text ≤ length (keystream key counter nonce ((length text + 63) / 64))
  long_enough text = omega (arith, length_keystream key nonce counter ((length text + 63) / 64))

  pub same_length : (text : List ℕ) → length (chacha20 key counter nonce text) ≡ length text
  unfolding chacha20
  same_length text = length-zip2 bit_xor text _ (long_enough text)

  pub turned_back : (text : List ℕ) → chacha20 key counter nonce (chacha20 key counter nonce text) ≡ text
  unfolding chacha20
  turned_back text =
      let ks = keystream key counter nonce ((length text + 63) / 64) in
      ap (λ n. zip2 bit_xor (zip2 bit_xor text ks) (keystream key counter nonce ((n + 63) / 64))) (length-zip2 bit_xor text ks (long_enough text)) ∙ zip2_back text ks (long_enough text)

-- a fact of each element, by places
below : (xs : List ℕ) → Each1 (λ b. b < 256) xs → (i : ℕ) → get_or xs i 0 < 256
below [] h i = omega arith
below (x ∷ xs) h zero = h.0
below (x ∷ xs) h (suc i) = below xs h.1 i

bytes : (key nonce : List ℕ) (counter : ℕ) (text : List ℕ) → ((i : ℕ) → get_or text i 0 < 256) → (i : ℕ) → get_or (chacha20 key counter nonce text) i 0 < 256
unfolding chacha20
bytes key nonce counter text h = zip2_below text _ h (below _ (bytes_keystream key nonce counter ((length text + 63) / 64)))

advanced_is : (n counter : ℕ) → counter < 2 ^ 32 → advanced n counter ≡ (counter + n) % 2 ^ 32
advanced_is zero counter l = omega arith
advanced_is (suc n) counter l = let ih = advanced_is n (next counter) (omega arith) in omega arith

parts : (key nonce : List ℕ) (counter n : ℕ) (front rest : List ℕ) → counter < 2 ^ 32 → length front ≡ 64 * n → chacha20 key counter nonce (front ++ rest) ≡ chacha20 key counter nonce front ++ chacha20 key ((counter + n) % 2 ^ 32) nonce rest
parts key nonce counter n front rest l e =
    let first = take_at front rest (64 * n) e in
    let last = drop_at front rest (64 * n) e in
    let whole = split key nonce n counter (front ++ rest) in
    let alone = enough key nonce n counter front (omega arith) in
    let on = advanced_is n counter l in
    cc

pub laws : Every
laws key nonce counter =
    record {
      block_length = length_block key nonce counter;
      block_bytes = below _ (bytes_block key nonce counter);
      same_length = same_length key nonce counter;
      back = turned_back key nonce counter;
      bytes = bytes key nonce counter;
      parts = parts key nonce counter;
    }
