-- How long digests and codes are, and how large their bytes.
use Rattle.std.proofs.Common.{◌≡◌, ℕ, zero, suc, ◌*◌, ◌/◌, ◌<◌, Bool, true, false, cond, ltb, List, [], ◌∷◌, ◌++◌, length, get_or, fold, refl, ap, ◌∙◌, mod-lt, arith, lit<}
use lib.ListN.{length-map}
use Rattle.std.specs.List.{flat_map}
use Rattle.std.specs.Simd.{first_chunks}
use Rattle.hash.specs.Blocks.{filled}
use Rattle.hash.specs.Hmac.{hmac, inner_pad, key_block, outer_pad}
use Rattle.hash.specs.Sha256.{absorbed, compressed, initial, padding, sha256}
use Rattle.hash.specs.Words.{be32}
use Rattle.hash.proofs.Fillings.{length_filled}

length_folded : (h : List ℕ) (bs : List (List ℕ)) → length h ≡ 8 → length (fold compressed h bs) ≡ 8
unfolding compressed
length_folded h [] e = e
length_folded h (b ∷ bs) e = length_folded (compressed h b) bs refl

length_joined : (ws : List ℕ) → length (flat_map be32 ws) ≡ 4 * length ws
length_joined [] = refl
length_joined (w ∷ ws) = let e = length_joined ws in omega arith

length_absorbed : (m : List ℕ) → length (absorbed initial m) ≡ 8
unfolding absorbed initial
length_absorbed m = length_folded initial (first_chunks 64 (length m / 64) m) refl

pub length_sha256 : (m : List ℕ) → length (sha256 m) ≡ 32
unfolding sha256
length_sha256 m = length_joined _ ∙ ap (λ n. 4 * n) (length_absorbed (m ++ padding (length m)))

joined_small : (ws : List ℕ) (i : ℕ) → get_or (flat_map be32 ws) i 0 < 256
joined_small [] i = lit< tt
joined_small (w ∷ ws) zero = mod-lt _ (lit< tt)
joined_small (w ∷ ws) (suc zero) = mod-lt _ (lit< tt)
joined_small (w ∷ ws) (suc (suc zero)) = mod-lt _ (lit< tt)
joined_small (w ∷ ws) (suc (suc (suc zero))) = mod-lt _ (lit< tt)
joined_small (w ∷ ws) (suc (suc (suc (suc i)))) = joined_small ws i

pub sha256_small : (m : List ℕ) (i : ℕ) → get_or (sha256 m) i 0 < 256
unfolding sha256
sha256_small m i = joined_small _ i

pub length_hmac : (k m : List ℕ) → length (hmac k m) ≡ 32
unfolding hmac
length_hmac k m = length_sha256 _

pub hmac_small : (k m : List ℕ) (i : ℕ) → get_or (hmac k m) i 0 < 256
unfolding hmac
hmac_small k m i = sha256_small _ i

length_key_block : (k : List ℕ) → length (key_block k) ≡ 64
length_key_block k = by (ltb 64 (length k)) refl where
  by : (b : Bool) → ltb 64 (length k) ≡ b → length (filled (cond b (sha256 k) k)) ≡ 64
  by true e = let l = length_sha256 k in length_filled (sha256 k) (omega arith)
  by false e = length_filled k (grind arith)

pub length_inner : (k : List ℕ) → length (inner_pad k) ≡ 64
unfolding inner_pad
length_inner k = length-map (key_block k) _ ∙ length_key_block k

pub length_outer : (k : List ℕ) → length (outer_pad k) ≡ 64
unfolding outer_pad
length_outer k = length-map (key_block k) _ ∙ length_key_block k
