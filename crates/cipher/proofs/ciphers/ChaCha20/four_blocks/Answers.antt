use Rattle.std.proofs.Common.{◌≡◌, ℕ, ◌+◌, ◌%◌, ◌^◌, ◌<◌, List, [], ◌++◌, length, get_or, ap, ◌∙◌, rules, arith}
use Rattle.std.specs.List.{flat_map}
use Rattle.cipher.specs.Rounds.{mixed, lane}
use Rattle.cipher.specs.Blocks.{state, le32, block}
use Rattle.cipher.specs.Streams.{next, keystream}
use Rattle.cipher.proofs.Transposed.{lanes, lane_at, four_items}
use Rattle.cipher.proofs.ciphers.ChaCha20.four_blocks.Goals as goal

module _ (key nonce : List ℕ) (counter : ℕ) (fits : counter < 2 ^ 32) where
  -- the k-th of the four, from its state to its bytes
  block_at : (k n : ℕ) (s : List ℕ) (before after all blocks : List (List ℕ)) → k < 4 → s ≡ state key n nonce → s ≡ lane k before → lane k after ≡ mixed (lane k before) → all ≡ lanes after → get_or blocks k [] ≡ flat_map le32 (get_or all k []) → get_or blocks k [] ≡ block key n nonce
  unfolding block
  block_at k n s before after all blocks l e1 e2 e3 e4 e5 = let out = ap (λ s. get_or s k []) e4 ∙ lane_at after k l in cc

  four : (blocks : List (List ℕ)) → length blocks ≡ 4 → get_or blocks 0 [] ≡ block key ((counter + 0) % 2 ^ 32) nonce → get_or blocks 1 [] ≡ block key ((counter + 1) % 2 ^ 32) nonce → get_or blocks 2 [] ≡ block key ((counter + 2) % 2 ^ 32) nonce → get_or blocks 3 [] ≡ block key ((counter + 3) % 2 ^ 32) nonce → flat_map (λ part. part) blocks ≡ keystream key counter nonce 4
  unfolding keystream
  four blocks long e0 e1 e2 e3 =
      let first : (counter + 0) % 2 ^ 32 ≡ counter = omega arith in
      let third : (counter + 2) % 2 ^ 32 ≡ next (next counter) = omega arith in
      let fourth : (counter + 3) % 2 ^ 32 ≡ next (next (next counter)) = omega arith in
      let b0 = e0 ∙ ap (λ n. block key n nonce) first in
      let b2 = e2 ∙ ap (λ n. block key n nonce) third in
      let b3 = e3 ∙ ap (λ n. block key n nonce) fourth in
      ap (flat_map (λ part. part)) (four_items blocks long) ∙ λ i. b0 i ++ (e1 i ++ (b2 i ++ (b3 i ++ [])))

pub returns : goal.returns
returns c =
    let key = c.args.self.key in
    let nonce = c.args.self.nonce in
    let at = block_at key nonce c.args.counter c.ranges.counter.fits in
    let state_at : (k : ℕ) → ℕ → Type 0 = λ k i. get_or c.map.result k [] ≡ state key ((c.args.counter + i) % 2 ^ 32) nonce in
    let bytes_at : ℕ → Type 0 = λ k. get_or c.map-2.result k [] ≡ flat_map le32 (get_or c.apart.result k []) in
    let s0 : state_at 0 0 = let h = c.map.ensures.items.at 0 0 [] (omega arith) in search rules in
    let s1 : state_at 1 1 = let h = c.map.ensures.items.at 1 0 [] (omega arith) in search rules in
    let s2 : state_at 2 2 = let h = c.map.ensures.items.at 2 0 [] (omega arith) in search rules in
    let s3 : state_at 3 3 = let h = c.map.ensures.items.at 3 0 [] (omega arith) in search rules in
    let b0 : bytes_at 0 = let h = c.map-2.ensures.items.at 0 [] [] (omega arith) in search rules in
    let b1 : bytes_at 1 = let h = c.map-2.ensures.items.at 1 [] [] (omega arith) in search rules in
    let b2 : bytes_at 2 = let h = c.map-2.ensures.items.at 2 [] [] (omega arith) in search rules in
    let b3 : bytes_at 3 = let h = c.map-2.ensures.items.at 3 [] [] (omega arith) in search rules in
    c.joined.ensures
    ∙ four key nonce c.args.counter c.ranges.counter.fits c.map-2.result c.map-2.ensures.items.long
    (at 0 _ _ _ _ _ c.map-2.result (omega arith) s0 c.beside.ensures.0 (c.mixed.ensures 0) c.apart.ensures b0)
    (at 1 _ _ _ _ _ c.map-2.result (omega arith) s1 c.beside.ensures.1 (c.mixed.ensures 1) c.apart.ensures b1)
    (at 2 _ _ _ _ _ c.map-2.result (omega arith) s2 c.beside.ensures.2 (c.mixed.ensures 2) c.apart.ensures b2)
    (at 3 _ _ _ _ _ c.map-2.result (omega arith) s3 c.beside.ensures.3 (c.mixed.ensures 3) c.apart.ensures b3)
