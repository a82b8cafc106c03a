-- The block function of ChaCha20, RFC 8439, 2.3: a key of 32 bytes, a block counter and a nonce of 12 bytes give 64 bytes.
use Rattle.std.specs.Prelude.{ℕ, ◌+◌, ◌*◌, ◌/◌, ◌%◌, ◌^◌, List, [], ◌∷◌, slice_index}
use Rattle.std.specs.List.{flat_map}
use Rattle.cipher.specs.Rounds.{mixed}

-- the word that the four bytes from i on spell, the least first
abbrev pub word : List ℕ → ℕ → ℕ
word bs i = slice_index bs i + slice_index bs (i + 1) * 2 ^ 8 + slice_index bs (i + 2) * 2 ^ 16 + slice_index bs (i + 3) * 2 ^ 24

-- four constants, eight words of the key, the counter, three words of the nonce
abbrev pub state : List ℕ → ℕ → List ℕ → List ℕ
state key counter nonce =
    0x61707865 ∷ 0x3320646e ∷ 0x79622d32 ∷ 0x6b206574
    ∷ word key 0 ∷ word key 4 ∷ word key 8 ∷ word key 12
    ∷ word key 16 ∷ word key 20 ∷ word key 24 ∷ word key 28
    ∷ counter ∷ word nonce 0 ∷ word nonce 4 ∷ word nonce 8 ∷ []

-- a word as four bytes, the least first
abbrev pub le32 : ℕ → List ℕ
le32 w = (w % 2 ^ 8) ∷ (w / 2 ^ 8 % 2 ^ 8) ∷ (w / 2 ^ 16 % 2 ^ 8) ∷ (w / 2 ^ 24 % 2 ^ 8) ∷ []

-- the words that the rounds make of the state, added to it, as bytes
unfoldable pub block : List ℕ → ℕ → List ℕ → List ℕ
block key counter nonce = flat_map le32 (mixed (state key counter nonce))
