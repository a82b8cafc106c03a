-- Bytes beside a stream that is at least as long.
use Rattle.std.proofs.Common.{◌≡◌, ℕ, zero, suc, ◌+◌, ◌<◌, ◌≤◌, List, [], ◌∷◌, ◌++◌, length, get_or, take, drop, set, refl, ap, ◌∙◌, arith, length-set}
use lib.Bits.{bit_xor, xor_assoc, xor_self, xor_zero_r, xor_lt}
use lib.Lanes.{zip2}
use Rattle.std.proofs.lemmas.List.{drop_more, drop-set-lt}
use Rattle.std.proofs.lemmas.Simd.{get_or-zip2}
use Rattle.cipher.proofs.Filled.{filled_more, filled_all}

module _ (f : ℕ → ℕ → ℕ) where
  pub length-zip2 : (xs ys : List ℕ) → length xs ≤ length ys → length (zip2 f xs ys) ≡ length xs
  length-zip2 [] ys l = refl
  length-zip2 (x ∷ xs) [] l = absurd (omega arith)
  length-zip2 (x ∷ xs) (y ∷ ys) l = omega (arith, length-zip2 xs ys (omega arith))

  pub zip2_append : (xs ys us vs : List ℕ) → length xs ≡ length us → zip2 f (xs ++ ys) (us ++ vs) ≡ zip2 f xs us ++ zip2 f ys vs
  zip2_append [] ys [] vs e = refl
  zip2_append [] ys (u ∷ us) vs e = absurd (omega arith)
  zip2_append (x ∷ xs) ys [] vs e = absurd (omega arith)
  zip2_append (x ∷ xs) ys (u ∷ us) vs e = ap (λ r. f x u ∷ r) (zip2_append xs ys us vs (omega arith))

  -- what stands past the end of the first list is not used
  pub zip2_longer : (xs us vs : List ℕ) → length xs ≤ length us → zip2 f xs (us ++ vs) ≡ zip2 f xs us
  zip2_longer [] us vs l = refl
  zip2_longer (x ∷ xs) [] vs l = absurd (omega arith)
  zip2_longer (x ∷ xs) (u ∷ us) vs l = ap (λ r. f x u ∷ r) (zip2_longer xs us vs (omega arith))

xor_back : (x k : ℕ) → bit_xor (bit_xor x k) k ≡ x
xor_back x k = xor_assoc x k k ∙ ap (bit_xor x) (xor_self k) ∙ xor_zero_r x

pub zip2_back : (xs ks : List ℕ) → length xs ≤ length ks → zip2 bit_xor (zip2 bit_xor xs ks) ks ≡ xs
zip2_back [] ks l = refl
zip2_back (x ∷ xs) [] l = absurd (omega arith)
zip2_back (x ∷ xs) (k ∷ ks) l = λ i. xor_back x k i ∷ zip2_back xs ks (omega arith) i

-- bytes stay bytes
pub zip2_below : (xs ks : List ℕ) → ((i : ℕ) → get_or xs i 0 < 256) → ((i : ℕ) → get_or ks i 0 < 256) → (i : ℕ) → get_or (zip2 bit_xor xs ks) i 0 < 256
zip2_below [] ks hx hk i = omega arith
zip2_below (x ∷ xs) [] hx hk i = omega arith
zip2_below (x ∷ xs) (k ∷ ks) hx hk zero = xor_lt 8 x k (hx 0) (hk 0)
zip2_below (x ∷ xs) (k ∷ ks) hx hk (suc i) = zip2_below xs ks (λ j. hx (suc j)) (λ j. hk (suc j)) i

-- ---- a loop that turns the bytes m in place: bs is what they are after i of them

pub record Turned (m ks : List ℕ) (i : ℕ) (bs : List ℕ) : Type 0 where
  pub long : length bs ≡ length m
  pub done : take i bs ≡ take i (zip2 bit_xor m ks)
  pub rest : drop i bs ≡ drop i m

module _ (m ks : List ℕ) (i : ℕ) (bs : List ℕ) (enough : length m ≤ length ks) (h : Turned m ks i bs) where
  pub turned_more : i < length m → Turned m ks (i + 1) (set bs i (bit_xor (get_or bs i 0) (get_or ks i 0)))
  turned_more l =
      let long-z = length-zip2 bit_xor m ks enough in
      let here = drop_more bs i 0 (omega (arith, h.long)) in
      let there = drop_more m i 0 l in
      let rest = h.rest in
      let at = get_or-zip2 bit_xor m ks i 0 0 0 l (omega arith) in
      let byte : get_or bs i 0 ≡ get_or m i 0 = cc in
      let new : bit_xor (get_or bs i 0) (get_or ks i 0) ≡ get_or (zip2 bit_xor m ks) i 0 = cc in
      let past = drop-set-lt (i + 1) bs i (bit_xor (get_or bs i 0) (get_or ks i 0)) (omega arith) in
      record {
        long = length-set bs i _ ∙ h.long;
        done = filled_more bs (zip2 bit_xor m ks) i _ (omega (arith, h.long)) (omega (arith, long-z)) new h.done;
        rest = cc;
      }

  pub turned_all : length m ≤ i → bs ≡ zip2 bit_xor m ks
  turned_all l = filled_all bs (zip2 bit_xor m ks) i (omega (arith, h.long)) (omega (arith, length-zip2 bit_xor m ks enough)) h.done
