-- Published digests and codes: SHA-256 (RFC 6234, section 8.5, TEST1, TEST2_1, TEST6 and TEST8) and HMAC-SHA-256 (RFC 4231,
-- section 4, cases 1 to 6).
use Rattle.std.specs.Prelude.{◌≡◌, ℕ, zero, suc, ◌/◌, ◌%◌, ◌^◌, List, [], ◌∷◌, take, replicate, codes}
use Rattle.hash.specs.Hmac.{hmac}
use Rattle.hash.specs.Sha256.{sha256}

-- the lowest n bytes of x, the highest first
abbrev pub bytes : ℕ → ℕ → List ℕ
bytes zero x = []
bytes (suc n) x = x / 256 ^ n % 256 ∷ bytes n x

abbrev pub Digest1 : Type 0
Digest1 = sha256 (codes "abc") ≡ bytes 32 0xba7816bf_8f01cfea_414140de_5dae2223_b00361a3_96177a9c_b410ff61_f20015ad

abbrev pub Digest2 : Type 0
Digest2 = sha256 (codes "abcdbcdecdefdefgefghfghighijhijkijkljklmklmnlmnomnopnopq") ≡ bytes 32 0x248d6a61_d20638b8_e5c02693_0c3e6039_a33ce459_64ff2167_f6ecedd4_19db06c1

abbrev pub Digest6 : Type 0
Digest6 = sha256 (0x19 ∷ []) ≡ bytes 32 0x68aa2e2e_e5dff96e_3355e6c7_ee373e3d_6a4e17f7_5f9518d8_43709c0c_9bc3e3d4

abbrev pub Digest8 : Type 0
Digest8 = sha256 (bytes 16 0xe3d72570_dcdd787c_e3887ab2_cd684652) ≡ bytes 32 0x175ee69b_02ba9b58_e2b0a5fd_13819cea_573f3940_a94f8251_28cf4209_beabb4e8

abbrev pub Code1 : Type 0
Code1 = hmac (replicate 20 0x0b) (codes "Hi There") ≡ bytes 32 0xb0344c61_d8db3853_5ca8afce_af0bf12b_881dc200_c9833da7_26e9376c_2e32cff7

abbrev pub Code2 : Type 0
Code2 = hmac (codes "Jefe") (codes "what do ya want for nothing?") ≡ bytes 32 0x5bdcc146_bf60754e_6a042426_089575c7_5a003f08_9d273983_9dec58b9_64ec3843

abbrev pub Code3 : Type 0
Code3 = hmac (replicate 20 0xaa) (replicate 50 0xdd) ≡ bytes 32 0x773ea91e_36800e46_854db8eb_d09181a7_2959098b_3ef8c122_d9635514_ced565fe

abbrev pub Code4 : Type 0
Code4 = hmac (bytes 25 0x0102030405060708090a0b0c0d0e0f10111213141516171819) (replicate 50 0xcd) ≡ bytes 32 0x82558a38_9a443c0e_a4cc8198_99f2083a_85f0faa3_e578f807_7a2e3ff4_6729665b

-- the code is cut to 128 bits
abbrev pub Code5 : Type 0
Code5 = take 16 (hmac (replicate 20 0x0c) (codes "Test With Truncation")) ≡ bytes 16 0xa3b61674_73100ee0_6e0c796c_2955552b

abbrev pub Code6 : Type 0
Code6 = hmac (replicate 131 0xaa) (codes "Test Using Larger Than Block-Size Key - Hash Key First") ≡ bytes 32 0x60e43159_1ee0b67f_0d8a26aa_cbf5b77f_8e0bc621_3728c514_0546040f_0ee37f54
