-- SHA-256 of a list of bytes (FIPS 180-4; RFC 6234, sections 4.1, 5.1, 6.1 and 6.2).
use Rattle.std.specs.Prelude.{ℕ, zero, suc, ◌-◌, ◌*◌, ◌/◌, ◌%◌, ◌^◌, cond, List, [], ◌∷◌, ◌++◌, length, replicate, fold, nat_lt, slice_index}
use Rattle.std.specs.List.{flat_map}
use Rattle.std.specs.Simd.{first_chunks}
use Rattle.hash.specs.Words.{plus, ch, maj, bsig0, bsig1, ssig0, ssig1, word_at, be32, be64}

-- what is put after a message of n bytes: a one bit, as few zero bits as make whole blocks of 64 bytes, and the length in bits.
-- The standard takes messages of fewer than 2 ^ 64 bits; to have a digest of every list, the length counts modulo 2 ^ 64.
abbrev pub padding : ℕ → List ℕ
padding n = 0x80 ∷ (replicate ((119 - n % 64) % 64) 0 ++ be64 (n * 8 % 2 ^ 64))

unfoldable pub constants : List ℕ
constants =
    0x428a_2f98 ∷ 0x7137_4491 ∷ 0xb5c0_fbcf ∷ 0xe9b5_dba5 ∷ 0x3956_c25b ∷ 0x59f1_11f1 ∷ 0x923f_82a4 ∷ 0xab1c_5ed5 ∷
    0xd807_aa98 ∷ 0x1283_5b01 ∷ 0x2431_85be ∷ 0x550c_7dc3 ∷ 0x72be_5d74 ∷ 0x80de_b1fe ∷ 0x9bdc_06a7 ∷ 0xc19b_f174 ∷
    0xe49b_69c1 ∷ 0xefbe_4786 ∷ 0x0fc1_9dc6 ∷ 0x240c_a1cc ∷ 0x2de9_2c6f ∷ 0x4a74_84aa ∷ 0x5cb0_a9dc ∷ 0x76f9_88da ∷
    0x983e_5152 ∷ 0xa831_c66d ∷ 0xb003_27c8 ∷ 0xbf59_7fc7 ∷ 0xc6e0_0bf3 ∷ 0xd5a7_9147 ∷ 0x06ca_6351 ∷ 0x1429_2967 ∷
    0x27b7_0a85 ∷ 0x2e1b_2138 ∷ 0x4d2c_6dfc ∷ 0x5338_0d13 ∷ 0x650a_7354 ∷ 0x766a_0abb ∷ 0x81c2_c92e ∷ 0x9272_2c85 ∷
    0xa2bf_e8a1 ∷ 0xa81a_664b ∷ 0xc24b_8b70 ∷ 0xc76c_51a3 ∷ 0xd192_e819 ∷ 0xd699_0624 ∷ 0xf40e_3585 ∷ 0x106a_a070 ∷
    0x19a4_c116 ∷ 0x1e37_6c08 ∷ 0x2748_774c ∷ 0x34b0_bcb5 ∷ 0x391c_0cb3 ∷ 0x4ed8_aa4a ∷ 0x5b9c_ca4f ∷ 0x682e_6ff3 ∷
    0x748f_82ee ∷ 0x78a5_636f ∷ 0x84c8_7814 ∷ 0x8cc7_0208 ∷ 0x90be_fffa ∷ 0xa450_6ceb ∷ 0xbef9_a3f7 ∷ 0xc671_78f2 ∷ []

unfoldable pub initial : List ℕ
initial =
    0x6a09_e667 ∷ 0xbb67_ae85 ∷ 0x3c6e_f372 ∷ 0xa54f_f53a ∷ 0x510e_527f ∷ 0x9b05_688c ∷ 0x1f83_d9ab ∷ 0x5be0_cd19 ∷ []

-- the words of the block m, or what the words before give
abbrev pub extended : List ℕ → ℕ → List ℕ → List ℕ
extended m t ws =
    ws
    ++ (cond (nat_lt t 16) (word_at m (4 * t))
    (plus (plus (plus (ssig1 (slice_index ws (t - 2))) (slice_index ws (t - 7))) (ssig0 (slice_index ws (t - 15)))) (slice_index ws (t - 16)))
    ∷ [])

-- the first t words of the schedule of the block m
unfoldable pub schedule : List ℕ → ℕ → List ℕ
schedule m zero = []
schedule m (suc t) = extended m t (schedule m t)

abbrev pub mixed : ℕ → ℕ → ℕ → ℕ → ℕ → ℕ → ℕ → ℕ → ℕ → ℕ → List ℕ
mixed a b c d e f g h k w =
    let t1 : ℕ = plus (plus (plus (plus h (bsig1 e)) (ch e f g)) k) w in
    let t2 : ℕ = plus (bsig0 a) (maj a b c) in
    plus t1 t2 ∷ a ∷ b ∷ c ∷ plus d t1 ∷ e ∷ f ∷ g ∷ []

-- one round, with the constant k and the word w
abbrev pub round : List ℕ → ℕ → ℕ → List ℕ
round s k w =
    mixed (slice_index s 0) (slice_index s 1) (slice_index s 2) (slice_index s 3) (slice_index s 4) (slice_index s 5) (slice_index s 6) (slice_index s 7) k w

-- the first t rounds
unfoldable pub rounds : List ℕ → List ℕ → ℕ → List ℕ
rounds s ws zero = s
rounds s ws (suc t) = round (rounds s ws t) (slice_index constants t) (slice_index ws t)

abbrev pub sums : List ℕ → List ℕ → List ℕ
sums h s =
    plus (slice_index h 0) (slice_index s 0) ∷ plus (slice_index h 1) (slice_index s 1) ∷ plus (slice_index h 2) (slice_index s 2) ∷ plus (slice_index h 3) (slice_index s 3)
    ∷ plus (slice_index h 4) (slice_index s 4) ∷ plus (slice_index h 5) (slice_index s 5) ∷ plus (slice_index h 6) (slice_index s 6) ∷ plus (slice_index h 7) (slice_index s 7) ∷ []

-- the hash value h with the block m taken in
unfoldable pub compressed : List ℕ → List ℕ → List ℕ
compressed h m = sums h (rounds h (schedule m 64) 64)

-- the hash value h with the whole blocks of m taken in, one after the other
unfoldable pub absorbed : List ℕ → List ℕ → List ℕ
absorbed h m = fold compressed h (first_chunks 64 (length m / 64) m)

unfoldable pub sha256 : List ℕ → List ℕ
sha256 m = flat_map be32 (absorbed initial (m ++ padding (length m)))
