-- SHA-256's words, numbers below 2 ^ 32, and their bytes (FIPS 180-4, sections 3 and 4.1.2; RFC 6234, sections 2, 3 and 5.1).
use Rattle.std.specs.Prelude.{ℕ, ◌+◌, ◌-◌, ◌*◌, ◌/◌, ◌%◌, ◌^◌, ◌<◌, List, [], ◌∷◌, bit_and, bit_or, bit_xor, slice_index}

abbrev pub plus : ℕ → ℕ → ℕ
plus x y = (x + y) % 2 ^ 32

abbrev pub complement : ℕ → ℕ
complement x = (2 ^ 32 - 1) - x

abbrev pub shr : ℕ → ℕ → ℕ
shr n x = x / 2 ^ n

abbrev pub rotr : ℕ → ℕ → ℕ
rotr n x = bit_or (x / 2 ^ n) (x * 2 ^ (32 - n) % 2 ^ 32)

abbrev pub ch : ℕ → ℕ → ℕ → ℕ
ch x y z = bit_xor (bit_and x y) (bit_and (complement x) z)

abbrev pub maj : ℕ → ℕ → ℕ → ℕ
maj x y z = bit_xor (bit_xor (bit_and x y) (bit_and x z)) (bit_and y z)

-- by how many bits a word is rotated or shifted
abbrev pub IsRotation : ℕ → Type 0
IsRotation n = (0 < n) × (n < 32)

-- the standard's four functions of one word: two of three rotations, and two of two rotations and a shift
abbrev pub big_sigma : ℕ → ℕ → ℕ → ℕ → ℕ
big_sigma a b c x = bit_xor (bit_xor (rotr a x) (rotr b x)) (rotr c x)

abbrev pub small_sigma : ℕ → ℕ → ℕ → ℕ → ℕ
small_sigma a b c x = bit_xor (bit_xor (rotr a x) (rotr b x)) (shr c x)

abbrev pub bsig0 : ℕ → ℕ
bsig0 x = big_sigma 2 13 22 x

abbrev pub bsig1 : ℕ → ℕ
bsig1 x = big_sigma 6 11 25 x

abbrev pub ssig0 : ℕ → ℕ
ssig0 x = small_sigma 7 18 3 x

abbrev pub ssig1 : ℕ → ℕ
ssig1 x = small_sigma 17 19 10 x

-- the word that stands in the four bytes from i on, the highest byte first
abbrev pub word_at : List ℕ → ℕ → ℕ
word_at bs i = slice_index bs i * 2 ^ 24 + slice_index bs (i + 1) * 2 ^ 16 + slice_index bs (i + 2) * 2 ^ 8 + slice_index bs (i + 3)

-- the bytes of a word
abbrev pub be32 : ℕ → List ℕ
be32 x = (x / 2 ^ 24 % 256) ∷ (x / 2 ^ 16 % 256) ∷ (x / 2 ^ 8 % 256) ∷ (x % 256) ∷ []

-- the bytes of a number below 2 ^ 64
abbrev pub be64 : ℕ → List ℕ
be64 x =
    (x / 2 ^ 56 % 256) ∷ (x / 2 ^ 48 % 256) ∷ (x / 2 ^ 40 % 256) ∷ (x / 2 ^ 32 % 256)
    ∷ (x / 2 ^ 24 % 256) ∷ (x / 2 ^ 16 % 256) ∷ (x / 2 ^ 8 % 256) ∷ (x % 256) ∷ []
