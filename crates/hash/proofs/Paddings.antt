-- The last blocks of a message.
use Rattle.std.proofs.Common.{◌≡◌, ℕ, ◌+◌, ◌-◌, ◌*◌, ◌/◌, ◌%◌, ◌^◌, ◌<◌, ◌≤◌, List, ◌∷◌, ◌++◌, length, take, set, replicate, sym, refl, ap, ◌∙◌, append_assoc, arith, length-append}
use lib.ListN.{length-replicate, replicate-append-replicate}
use Rattle.std.specs.List.{flat_map}
use Rattle.std.proofs.lemmas.List.{take-append-drop, take_at}
use Rattle.hash.specs.Blocks.{filled}
use Rattle.hash.specs.Hashers.{closed, rest}
use Rattle.hash.specs.Sha256.{absorbed, compressed, padding}
use Rattle.hash.specs.Words.{be32, be64}
use Rattle.hash.proofs.Absorptions.{absorbed_append, absorbed_block, absorbed_front, absorbed_two, front, length_front}
use Rattle.hash.proofs.Fillings.{marked}

padding_mod : (n : ℕ) → padding (n % 2 ^ 64) ≡ padding n
padding_mod n =
    let a : n % 2 ^ 64 % 64 ≡ n % 64 = omega arith in
    let b : n % 2 ^ 64 * 8 % 2 ^ 64 ≡ n * 8 % 2 ^ 64 = omega arith in
    λ i. 0x80 ∷ (replicate ((119 - a i) % 64) 0 ++ be64 (b i))

pub closed_mod : (h t : List ℕ) (n : ℕ) → closed h t (n % 2 ^ 64) ≡ closed h t n
unfolding closed
closed_mod h t n = ap (λ p. flat_map be32 (absorbed h (t ++ p))) (padding_mod n)

-- the whole blocks can be taken in first
pub closed_rest : (h m : List ℕ) (n : ℕ) → closed (absorbed h m) (rest m) n ≡ closed h m n
unfolding closed
closed_rest h m n =
    let w = take-append-drop (length m / 64 * 64) m in
    let f = absorbed_front h m in
    let a = absorbed_append h (front m) (rest m ++ padding n) (length m / 64) (length_front m) in
    let s = append_assoc (front m) (rest m) (padding n) in
    cc

-- t, the one bit and k zero bytes
abbrev ended : List ℕ → ℕ → List ℕ
ended t k = t ++ (0x80 ∷ replicate k 0)

length_ended : (t : List ℕ) (k : ℕ) → length (ended t k) ≡ length t + (k + 1)
length_ended t k = simp (length-append, length-replicate) (omega arith)

ended_append : (t : List ℕ) (k j n : ℕ) → n ≡ k + j → ended t k ++ replicate j 0 ≡ ended t n
ended_append t k j n e =
    append_assoc t (0x80 ∷ replicate k 0) (replicate j 0)
    ∙ ap (λ z. t ++ (0x80 ∷ z)) (replicate-append-replicate {A = ℕ} k j 0 ∙ ap (λ i. replicate i 0) (sym e))

ended_padding : (t : List ℕ) (k n : ℕ) → k ≡ (119 - n % 64) % 64 → ended t k ++ be64 (n * 8 % 2 ^ 64) ≡ t ++ padding n
ended_padding t k n e =
    append_assoc t (0x80 ∷ replicate k 0) (be64 (n * 8 % 2 ^ 64))
    ∙ ap (λ i. t ++ (0x80 ∷ (replicate i 0 ++ be64 (n * 8 % 2 ^ 64)))) e

-- the tail's block, with the one bit written after t
ended_block : (t block : List ℕ) (u : ℕ) → length t ≡ u → u < 64 → block ≡ filled t → set block u 0x80 ≡ ended t (63 - u)
ended_block t block u e l f = ap (λ b. set b u 0x80) f ∙ marked t u e l

-- the length has room in the block of t
pub closed_one
    : (h t block : List ℕ) (n : ℕ) → length t ≡ n % 64 → n % 64 < 56 → block ≡ filled t
    → flat_map be32 (compressed h (take 56 (set block (n % 64) 0x80) ++ be64 (n * 8 % 2 ^ 64))) ≡ closed h t n
unfolding closed
closed_one h t block n e l f =
    let k : ℕ = 55 - n % 64 in
    let b = ended_block t block (n % 64) e (omega arith) f ∙ sym (ended_append t k 8 (63 - n % 64) (omega arith)) in
    let q = length_ended t k in
    let c : take 56 (set block (n % 64) 0x80) ≡ ended t k = ap (take 56) b ∙ take_at (ended t k) (replicate 8 0) 56 (omega arith) in
    let p = ended_padding t k n (omega arith) in
    let w : length (ended t k ++ be64 (n * 8 % 2 ^ 64)) ≡ 64 = length-append (ended t k) _ ∙ omega arith in
    ap (λ x. flat_map be32 (compressed h (x ++ be64 (n * 8 % 2 ^ 64)))) c
    ∙ ap (flat_map be32) (sym (absorbed_block h _ w) ∙ ap (absorbed h) p)

-- it comes in a block of its own
pub closed_two
    : (h t block : List ℕ) (n : ℕ) → length t ≡ n % 64 → 56 ≤ n % 64 → block ≡ filled t
    → flat_map be32 (compressed (compressed h (set block (n % 64) 0x80)) (replicate 56 0 ++ be64 (n * 8 % 2 ^ 64))) ≡ closed h t n
unfolding closed
closed_two h t block n e l f =
    let k : ℕ = 63 - n % 64 in
    let b = ended_block t block (n % 64) e (omega arith) f in
    let q = length_ended t k in
    let y : List ℕ = replicate 56 0 ++ be64 (n * 8 % 2 ^ 64) in
    let p : ended t k ++ y ≡ t ++ padding n =
    sym (append_assoc (ended t k) (replicate 56 0) (be64 (n * 8 % 2 ^ 64)))
    ∙ ap (λ x. x ++ be64 (n * 8 % 2 ^ 64)) (ended_append t k 56 (k + 56) refl)
    ∙ ended_padding t (k + 56) n (omega arith)
    in
    ap (λ x. flat_map be32 (compressed (compressed h x) y)) b
    ∙ ap (flat_map be32) (sym (absorbed_two h (ended t k) y (omega arith) refl) ∙ ap (absorbed h) p)
