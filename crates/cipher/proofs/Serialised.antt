-- Words from bytes and bytes from words, four bytes each, one word after the other.
use Rattle.std.proofs.Common.{◌≡◌, ℕ, zero, suc, ◌+◌, ◌*◌, ◌<◌, List, [], ◌∷◌, ◌++◌, length, get_or, take, drop, refl, ap, ◌∙◌, w32, arith}
use Rattle.std.specs.Int.{from_le_bytes}
use Rattle.std.specs.List.{flat_map}
use Rattle.std.specs.Simd.{first_chunks}
use Rattle.std.proofs.lemmas.List.{drop-drop, get_or-take, get_or-drop}
use Rattle.cipher.specs.Blocks.{word}

chunk_at : (n k i : ℕ) (xs : List ℕ) → i < k → get_or (first_chunks n k xs) i [] ≡ take n (drop (n * i) xs)
chunk_at n zero i xs l = absurd (omega arith)
chunk_at n (suc k) zero xs l = let start : 0 ≡ n * 0 = omega arith in ap (λ j. take n (drop j xs)) start
chunk_at n (suc k) (suc i) xs l =
    let on : n + n * i ≡ n * suc i = omega arith in
    chunk_at n k i (drop n xs) (omega arith) ∙ ap (take n) (drop-drop (n * i) n xs ∙ ap (λ j. drop j xs) on)

word_spelled : (xs : List ℕ) (j : ℕ) → from_le_bytes w32 (take 4 (drop j xs)) ≡ word xs j
word_spelled xs j =
    let at : (i : ℕ) → i < 4 → get_or (take 4 (drop j xs)) i 0 ≡ get_or xs (j + i) 0 = λ i l. get_or-take 4 (drop j xs) i 0 l ∙ get_or-drop j xs i 0 in
    let first : j + 0 ≡ j = omega arith in
    λ k. (at 0 (omega arith) ∙ ap (λ n. get_or xs n 0) first) k + at 1 (omega arith) k * 256 + at 2 (omega arith) k * 65536 + at 3 (omega arith) k * 16777216

pub word_at : (xs : List ℕ) (quads : List (List ℕ)) (k i w : ℕ) → i < k → quads ≡ first_chunks 4 k xs → w ≡ from_le_bytes w32 (get_or quads i []) → w ≡ word xs (4 * i)
word_at xs quads k i w l is e = e ∙ ap (from_le_bytes w32) (ap (λ qs. get_or qs i []) is ∙ chunk_at 4 k i xs l) ∙ word_spelled xs (4 * i)

-- parts is what f makes of each word
pub same_parts : (f : ℕ → List ℕ) (parts : List (List ℕ)) (words : List ℕ) → length parts ≡ length words → ((i : ℕ) → i < length words → get_or parts i [] ≡ f (get_or words i 0)) → flat_map (λ part. part) parts ≡ flat_map f words
same_parts f [] [] e same = refl
same_parts f [] (w ∷ ws) e same = absurd (omega arith)
same_parts f (p ∷ ps) [] e same = absurd (omega arith)
same_parts f (p ∷ ps) (w ∷ ws) e same = λ i. same 0 (omega arith) i ++ same_parts f ps ws (omega arith) (λ k l. same (suc k) (omega arith)) i
