-- Sixteen words make 64 bytes, whatever the words are.
use Rattle.std.proofs.Common.{◌≡◌, ℕ, zero, suc, ◌*◌, ◌<◌, List, [], ◌∷◌, ◌++◌, length, refl, ◌∙◌, arith, length-append, length-set}
use lib.Lanes.{Each1}
use lib.LanesLaws.{length-zip2}
use Rattle.std.specs.List.{flat_map}
use Rattle.std.proofs.lemmas.Nat.{mod_below}
use Rattle.cipher.specs.Rounds.{plus, quarter_at_of, rounds, mixed}
use Rattle.cipher.specs.Blocks.{state, le32, block}
use Rattle.cipher.specs.Streams.{next, keystream}

length_quarter_at : (a b c d : ℕ) (s : List ℕ) → length (quarter_at_of a b c d s) ≡ length s
unfolding quarter_at_of
length_quarter_at a b c d s = simp length-set

length_rounds : (n : ℕ) (s : List ℕ) → length (rounds n s) ≡ length s
unfolding rounds
length_rounds zero s = refl
length_rounds (suc n) s = simp length_quarter_at (length_rounds n s)

length_joined : (ws : List ℕ) → length (flat_map le32 ws) ≡ 4 * length ws
length_joined [] = refl
length_joined (w ∷ ws) = omega (arith, length_joined ws)

pub length_block : (key nonce : List ℕ) (counter : ℕ) → length (block key counter nonce) ≡ 64
unfolding block
length_block key nonce counter =
    let s = state key counter nonce in
    let long : length (mixed s) ≡ 16 = length-zip2 plus (rounds 10 s) s (length_rounds 10 s) ∙ length_rounds 10 s in
    omega (arith, length_joined (mixed s))

pub length_keystream : (key nonce : List ℕ) (counter n : ℕ) → length (keystream key counter nonce n) ≡ 64 * n
unfolding keystream
length_keystream key nonce counter zero = refl
length_keystream key nonce counter (suc n) =
    omega (arith, length-append (block key counter nonce) (keystream key (next counter) nonce n), length_block key nonce counter, length_keystream key nonce (next counter) n)

-- ---- and each is a byte

bytes_joined : (ws : List ℕ) → Each1 (λ b. b < 256) (flat_map le32 ws)
bytes_joined [] = tt
bytes_joined (w ∷ ws) = (mod_below _ 256 (omega arith), (mod_below _ 256 (omega arith), (mod_below _ 256 (omega arith), (mod_below _ 256 (omega arith), bytes_joined ws))))

pub bytes_block : (key nonce : List ℕ) (counter : ℕ) → Each1 (λ b. b < 256) (block key counter nonce)
unfolding block
bytes_block key nonce counter = bytes_joined (mixed (state key counter nonce))

each_append : (P : ℕ → Type 0) (xs ys : List ℕ) → Each1 P xs → Each1 P ys → Each1 P (xs ++ ys)
each_append P [] ys hx hy = hy
each_append P (x ∷ xs) ys hx hy = (hx.0, each_append P xs ys hx.1 hy)

pub bytes_keystream : (key nonce : List ℕ) (counter n : ℕ) → Each1 (λ b. b < 256) (keystream key counter nonce n)
unfolding keystream
bytes_keystream key nonce counter zero = tt
bytes_keystream key nonce counter (suc n) = each_append (λ b. b < 256) (block key counter nonce) _ (bytes_block key nonce counter) (bytes_keystream key nonce (next counter) n)
