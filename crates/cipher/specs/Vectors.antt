-- Vectors of RFC 8439: the worked examples of sections 2.1 to 2.4, and vectors of its appendix A.1 and A.2.
use Rattle.std.specs.Prelude.{◌≡◌, ℕ, zero, suc, ◌/◌, ◌%◌, ◌^◌, List, [], ◌∷◌, ◌++◌, replicate, codes}
use Rattle.cipher.specs.Rounds.{quarter, quarter_at_of}
use Rattle.cipher.specs.Blocks.{block}
use Rattle.cipher.specs.Streams.{chacha20}

-- the n bytes that a numeral spells
abbrev pub spelled : ℕ → ℕ → List ℕ
spelled zero x = []
spelled (suc n) x = (x / 256 ^ n % 256) ∷ spelled n x

abbrev pub counting_key : List ℕ
counting_key = spelled 32 0x000102030405060708090a0b0c0d0e0f101112131415161718191a1b1c1d1e1f

abbrev pub zeros : ℕ → List ℕ
zeros n = replicate n 0

abbrev pub sunscreen : List ℕ
sunscreen = codes "Ladies and Gentlemen of the class of '99: If I could offer you only one tip for the future, sunscreen would be it."

abbrev pub jabberwocky : List ℕ
jabberwocky =
    codes "'Twas brillig, and the slithy toves" ++ (10 ∷ codes "Did gyre and gimble in the wabe:")
    ++ (10 ∷ codes "All mimsy were the borogoves,") ++ (10 ∷ codes "And the mome raths outgrabe.")

pub record Vectors : Type 0 where
  pub section_2_1_1 : ◌≡◌ {A = ℕ × ℕ × ℕ × ℕ} (quarter 0x11111111 0x01020304 0x9b8d6f43 0x01234567) (0xea2a92f4, 0xcb1cf8ce, 0x4581472e, 0x5881c4bb)
  pub section_2_2_1 :
      quarter_at_of 2 7 8 13
      (0x879531e0 ∷ 0xc5ecf37d ∷ 0x516461b1 ∷ 0xc9a62f8a ∷ 0x44c20ef3 ∷ 0x3390af7f ∷ 0xd9fc690b ∷ 0x2a5f714c
      ∷ 0x53372767 ∷ 0xb00a5631 ∷ 0x974c541a ∷ 0x359e9963 ∷ 0x5c971061 ∷ 0x3d631689 ∷ 0x2098d9d6 ∷ 0x91dbd320 ∷ [])
      ≡ 0x879531e0 ∷ 0xc5ecf37d ∷ 0xbdb886dc ∷ 0xc9a62f8a ∷ 0x44c20ef3 ∷ 0x3390af7f ∷ 0xd9fc690b ∷ 0xcfacafd2
      ∷ 0xe46bea80 ∷ 0xb00a5631 ∷ 0x974c541a ∷ 0x359e9963 ∷ 0x5c971061 ∷ 0xccc07c79 ∷ 0x2098d9d6 ∷ 0x91dbd320 ∷ []
  pub section_2_3_2 :
      block counting_key 1 (spelled 12 0x000000090000004a00000000)
      ≡ spelled 64 0x10f1e7e4d13b5915500fdd1fa32071c4c7d1f4c733c068030422aa9ac3d46c4ed2826446079faa0914c2d705d98b02a2b5129cd1de164eb9cbd083e8a2503c4e
  pub section_2_4_2 :
      chacha20 counting_key 1 (spelled 12 0x000000000000004a00000000) sunscreen
      ≡ spelled 114 0x6e2e359a2568f98041ba0728dd0d6981e97e7aec1d4360c20a27afccfd9fae0bf91b65c5524733ab8f593dabcd62b3571639d624e65152ab8f530c359f0861d807ca0dbf500d6a6156a38e088a22b65e52bc514d16ccf806818ce91ab77937365af90bbf74a35be6b40b8eedf2785e42874d
  pub appendix_1_1 :
      block (zeros 32) 0 (zeros 12)
      ≡ spelled 64 0x76b8e0ada0f13d90405d6ae55386bd28bdd219b8a08ded1aa836efcc8b770dc7da41597c5157488d7724e03fb8d84a376a43b8f41518a11cc387b669b2ee6586
  pub appendix_1_2 :
      block (zeros 32) 1 (zeros 12)
      ≡ spelled 64 0x9f07e7be5551387a98ba977c732d080dcb0f29a048e3656912c6533e32ee7aed29b721769ce64e43d57133b074d839d531ed1f28510afb45ace10a1f4b794d6f
  pub appendix_1_3 :
      block (zeros 31 ++ (1 ∷ [])) 1 (zeros 12)
      ≡ spelled 64 0x3aeb5224ecf849929b9d828db1ced4dd832025e8018b8160b82284f3c949aa5a8eca00bbb4a73bdad192b5c42f73f2fd4e273644c8b36125a64addeb006c13a0
  pub appendix_1_4 :
      block (0 ∷ 0xff ∷ zeros 30) 2 (zeros 12)
      ≡ spelled 64 0x72d54dfbf12ec44b362692df94137f328fea8da73990265ec1bbbea1ae9af0ca13b25aa26cb4a648cb9b9d1be65b2c0924a66c54d545ec1b7374f4872e99f096
  pub appendix_1_5 :
      block (zeros 32) 0 (zeros 11 ++ (2 ∷ []))
      ≡ spelled 64 0xc2c64d378cd536374ae204b9ef933fcd1a8b2288b3dfa49672ab765b54ee27c78a970e0e955c14f3a88e741b97c286f75f8fc299e8148362fa198a39531bed6d
  pub appendix_2_3 :
      chacha20 (spelled 32 0x1c9240a5eb55d38af333888604f6b5f0473917c1402b80099dca5cbc207075c0) 42 (zeros 11 ++ (2 ∷ [])) jabberwocky
      ≡ spelled 127 0x62e6347f95ed87a45ffae7426f27a1df5fb69110044c0d73118effa95b01e5cf166d3df2d721caf9b21e5fb14c616871fd84c54f9d65b283196c7fe4f60553ebf39c6402c42234e32a356b3e764312a61a5532055716ead6962568f87d3f3f7704c6a8d1bcd1bf4d50d6154b6da731b187b58dfd728afa36757a797ac188d1
