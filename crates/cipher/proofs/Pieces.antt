-- The bytes of m, turned from the start on: bs is what they are when those before `at` are done, and n is the next counter.
use Rattle.std.proofs.Common.{◌≡◌, ℕ, ◌+◌, ◌-◌, ◌*◌, ◌≤◌, min, List, ◌++◌, length, take, drop, sym, ap, ◌∙◌, ⊎_elim, append_assoc, arith, length-drop}
use lib.Bits.{bit_xor}
use lib.Lanes.{zip2}
use borrow.Rule.Slice.PartMut.{put_mid, same_len_mid}
use Rattle.std.proofs.lemmas.List.{append-nil, take_all, drop_all, drop-drop, length-take-le}
use Rattle.std.proofs.lemmas.Slice.{take-put_mid, drop-put_mid}
use Rattle.std.proofs.lemmas.Bool.{cases_lt}
use Rattle.cipher.specs.Streams.{keystream, chacha20}
use Rattle.cipher.proofs.Keystreams.{advanced, split}
use Rattle.cipher.proofs.Lengths.{length_keystream}
use Rattle.cipher.proofs.Zips.{length-zip2}

-- a cut past the end is one at the end
cut : (xs : List ℕ) (k n : ℕ) → k ≡ min (length xs) n → (take k xs ≡ take n xs) × (drop k xs ≡ drop n xs)
cut xs k n e =
    ⊎_elim
    (λ l. (take_all k xs (omega arith) ∙ sym (take_all n xs (omega arith)), drop_all k xs (omega arith) ∙ sym (drop_all n xs (omega arith))))
    (λ l. let is : k ≡ n = omega arith in (ap (λ j. take j xs) is, ap (λ j. drop j xs) is))
    (cases_lt (length xs) n)

module _ (key nonce m : List ℕ) (first : ℕ) where
  pub record Going (n at : ℕ) (bs : List ℕ) : Type 0 where
    pub within : at ≤ length m
    pub long : length bs ≡ length m
    pub rest : drop at bs ≡ drop at m
    pub whole : take at bs ++ chacha20 key n nonce (drop at m) ≡ chacha20 key first nonce m

  -- j blocks, or as many as it takes
  pub going_more : (j n n' at end : ℕ) (bs ks part : List ℕ) → Going n at bs → n' ≡ advanced j n → end ≡ min (length bs) (at + 64 * j) → ks ≡ keystream key n nonce j → part ≡ zip2 bit_xor (take (end - at) (drop at bs)) ks → Going n' end (put_mid at (end - at) bs part)
  going_more j n n' at end bs ks part h en e eks is =
      let xs = drop at m in
      let k = end - at in
      let within = h.within in
      let long = h.long in
      let rest = h.rest in
      let long_xs = length-drop at m in
      let cuts = cut xs k (64 * j) (omega arith) in
      let long-ks = ap length eks ∙ length_keystream key nonce n j in
      let long_front : length (take k (drop at bs)) ≡ k = length-take-le k (drop at bs) (omega (arith, length-drop at bs)) in
      let long_part : length part ≡ k = ap length is ∙ length-zip2 bit_xor (take k (drop at bs)) ks (omega arith) ∙ long_front in
      let done = take-put_mid at k bs part end (omega arith) (omega arith) in
      let left = drop-put_mid at k bs part end (omega arith) (omega arith) long_part in
      let left-bs = drop-drop k at bs in
      let left-m = drop-drop k at m in
      let to_end : at + k ≡ end = omega arith in
      let turned = split key nonce j n xs in
      let whole = h.whole in
      let regroup = append_assoc (take at bs) part (chacha20 key n' nonce (drop end m)) in
      record {
        within = omega arith;
        long = same_len_mid at k bs part (long_part ∙ sym long_front) ∙ long;
        rest = cc;
        whole = cc;
      }

  pub going_all : (n at : ℕ) (bs : List ℕ) → Going n at bs → length m ≤ at → bs ≡ chacha20 key first nonce m
  unfolding chacha20
  going_all n at bs h l =
      let all = take_all at bs (omega (arith, h.long)) in
      let none = ap (chacha20 key n nonce) (drop_all at m l) in
      let whole = h.whole in
      let end = append-nil bs in
      cc
