-- The rounds of ChaCha20, RFC 8439, 2.1 to 2.3. A word is a number below 2 ^ 32, a state a list of sixteen.
use Rattle.std.specs.Prelude.{ℕ, zero, suc, ◌+◌, ◌-◌, ◌*◌, ◌/◌, ◌%◌, ◌^◌, List, map, bit_or, bit_xor, slice_index, slice_set}
use Rattle.std.specs.Simd.Lanes.{zip2}

-- sums and turns of 32-bit numbers
abbrev pub plus : ℕ → ℕ → ℕ
plus x y = (x + y) % 2 ^ 32

abbrev pub rotl : ℕ → ℕ → ℕ
rotl n x = bit_or (x * 2 ^ n % 2 ^ 32) (x / 2 ^ (32 - n))

-- ---- 2.1, the quarter round

abbrev pub quarter : ℕ → ℕ → ℕ → ℕ → ℕ × ℕ × ℕ × ℕ
quarter a b c d =
    let a1 = plus a b in let d1 = rotl 16 (bit_xor d a1) in
    let c1 = plus c d1 in let b1 = rotl 12 (bit_xor b c1) in
    let a2 = plus a1 b1 in let d2 = rotl 8 (bit_xor d1 a2) in
    let c2 = plus c1 d2 in let b2 = rotl 7 (bit_xor b1 c2) in
    (a2, b2, c2, d2)

-- ---- 2.2, a quarter round on the state's words at a, b, c and d

-- four words put at these places
abbrev pub put4 : ℕ → ℕ → ℕ → ℕ → ℕ × ℕ × ℕ × ℕ → List ℕ → List ℕ
put4 a b c d q s = slice_set (slice_set (slice_set (slice_set s a q.0) b q.1) c q.2) d q.3

unfoldable pub quarter_at_of : ℕ → ℕ → ℕ → ℕ → List ℕ → List ℕ
quarter_at_of a b c d s = put4 a b c d (quarter (slice_index s a) (slice_index s b) (slice_index s c) (slice_index s d)) s

-- ---- 2.3, two rounds, a column round and a diagonal round, and ten times these

abbrev pub columns : List ℕ → List ℕ
columns s = quarter_at_of 3 7 11 15 (quarter_at_of 2 6 10 14 (quarter_at_of 1 5 9 13 (quarter_at_of 0 4 8 12 s)))

abbrev pub diagonals : List ℕ → List ℕ
diagonals s = quarter_at_of 3 4 9 14 (quarter_at_of 2 7 8 13 (quarter_at_of 1 6 11 12 (quarter_at_of 0 5 10 15 s)))

unfoldable pub rounds : ℕ → List ℕ → List ℕ
rounds zero s = s
rounds (suc n) s = diagonals (columns (rounds n s))

-- the words of a block: what the rounds make of the state, added to the state
abbrev pub mixed : List ℕ → List ℕ
mixed s = zip2 plus (rounds 10 s) s

-- ---- words of several lanes

-- what four words have in one lane
abbrev pub each4 : {W : Type 0} → (W → ℕ) → W × W × W × W → ℕ × ℕ × ℕ × ℕ
each4 f q = (f q.0, f q.1, f q.2, f q.3)

-- what a state of vectors has in lane k
abbrev pub lane : ℕ → List (List ℕ) → List ℕ
lane k s = map (λ w. slice_index w k) s
