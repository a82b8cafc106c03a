-- A text is turned block by block.
use Rattle.std.proofs.Common.{◌≡◌, ℕ, zero, suc, ◌+◌, ◌-◌, ◌*◌, ◌/◌, ◌≤◌, List, [], ◌++◌, length, take, drop, sym, ap, ◌∙◌, ⊎_elim, append_assoc, suc-add, zero-add, arith, length-drop, take-append-drop}
use lib.Bits.{bit_xor}
use lib.Lanes.{zip2}
use Rattle.std.proofs.lemmas.List.{append-nil, take_all, drop_all, length-take-le}
use Rattle.std.proofs.lemmas.Bool.{cases_lt}
use Rattle.cipher.specs.Blocks.{block}
use Rattle.cipher.specs.Streams.{next, keystream, chacha20}
use Rattle.cipher.proofs.Lengths.{length_keystream}
use Rattle.cipher.proofs.Zips.{zip2_append, zip2_longer}

-- the counter n blocks on
abbrev pub advanced : ℕ → ℕ → ℕ
advanced zero counter = counter
advanced (suc n) counter = advanced n (next counter)

module _ (key nonce : List ℕ) where
  abbrev stream : ℕ → ℕ → List ℕ
  stream counter n = keystream key counter nonce n

  abbrev turned : ℕ → List ℕ → List ℕ
  turned counter m = chacha20 key counter nonce m

  stream_append : (a b counter : ℕ) → stream counter (a + b) ≡ stream counter a ++ stream (advanced a counter) b
  unfolding keystream
  stream_append zero b counter = ap (stream counter) (zero-add b)
  stream_append (suc a) b counter =
      ap (stream counter) (suc-add a b) ∙ ap (λ r. block key counter nonce ++ r) (stream_append a b (next counter)) ∙ sym (append_assoc (block key counter nonce) _ _)

  -- more blocks than it takes make no difference
  pub enough : (n counter : ℕ) (m : List ℕ) → length m ≤ 64 * n → zip2 bit_xor m (stream counter n) ≡ turned counter m
  unfolding chacha20
  enough n counter m l =
      let q = (length m + 63) / 64 in
      let long = length_keystream key nonce counter q in
      let parts : n ≡ q + (n - q) = omega arith in
      ap (λ j. zip2 bit_xor m (stream counter j)) parts ∙ ap (zip2 bit_xor m) (stream_append q (n - q) counter) ∙ zip2_longer bit_xor m (stream counter q) _ (omega arith)

  split_long : (n counter : ℕ) (m : List ℕ) → 64 * n ≤ length m → turned counter m ≡ zip2 bit_xor (take (64 * n) m) (stream counter n) ++ turned (advanced n counter) (drop (64 * n) m)
  split_long n counter m l =
      let q = (length (drop (64 * n) m) + 63) / 64 in
      let rest = enough q (advanced n counter) (drop (64 * n) m) (omega arith) in
      let long = length-take-le (64 * n) m l ∙ sym (length_keystream key nonce counter n) in
      sym (enough (n + q) counter m (omega (arith, length-drop (64 * n) m)))
      ∙ (λ i. zip2 bit_xor (sym (take-append-drop (64 * n) m) i) (stream_append n q counter i))
      ∙ zip2_append bit_xor (take (64 * n) m) (drop (64 * n) m) (stream counter n) (stream (advanced n counter) q) long
      ∙ ap (λ r. zip2 bit_xor (take (64 * n) m) (stream counter n) ++ r) rest

  split_short : (n counter : ℕ) (m : List ℕ) → length m ≤ 64 * n → turned counter m ≡ zip2 bit_xor (take (64 * n) m) (stream counter n) ++ turned (advanced n counter) (drop (64 * n) m)
  unfolding chacha20
  split_short n counter m l =
      let all = take_all (64 * n) m l in
      let none = drop_all (64 * n) m l in
      let is = enough n counter m l in
      let end : turned (advanced n counter) (drop (64 * n) m) ≡ [] = ap (turned (advanced n counter)) none in
      sym (append-nil (turned counter m)) ∙ λ i. (sym is ∙ ap (λ p. zip2 bit_xor p (stream counter n)) (sym all)) i ++ sym end i

  -- n blocks first, and the rest with the counter so much further on
  pub split : (n counter : ℕ) (m : List ℕ) → turned counter m ≡ zip2 bit_xor (take (64 * n) m) (stream counter n) ++ turned (advanced n counter) (drop (64 * n) m)
  split n counter m =
      ⊎_elim (λ l. split_short n counter m (omega arith)) (split_long n counter m) (cases_lt (length m) (64 * n))
