-- Messages after a block that was taken in before.
use Rattle.std.proofs.Common.{◌≡◌, ℕ, ◌+◌, List, ◌++◌, length, ap, ◌∙◌, append_assoc, arith, length-append}
use Rattle.hash.specs.Hashers.{closed, finished}
use Rattle.hash.specs.Hmac.{hmac, inner_pad, outer_pad}
use Rattle.hash.specs.Keys.{prepared}
use Rattle.hash.specs.Sha256.{compressed, initial, padding, sha256}
use Rattle.hash.specs.declared.keys.Key.{Key}
use Rattle.hash.proofs.Absorptions.{absorbed_append, absorbed_block}
use Rattle.hash.proofs.Messages.{sha256_is}
use Rattle.hash.proofs.Sizes.{length_inner, length_outer}

closed_block : (h b m : List ℕ) (n : ℕ) → length b ≡ 64 → closed (compressed h b) m n ≡ closed h (b ++ m) n
unfolding closed
closed_block h b m n e =
    let p = absorbed_append h b (m ++ padding n) 1 e in
    let q = absorbed_block h b e in
    let s = append_assoc b m (padding n) in
    cc

-- a message after a block that was taken in before
finished_block : (b m : List ℕ) → length b ≡ 64 → finished (compressed initial b) 64 m ≡ sha256 (b ++ m)
finished_block b m e =
    let n : 64 + length m ≡ length (b ++ m) = simp length-append (omega arith) in
    ap (closed (compressed initial b) m) n ∙ closed_block initial b m (length (b ++ m)) e ∙ sha256_is (b ++ m)

-- the code of m, from the digest d of the inner pad and m
pub end_is
    : (s : Key) (k m d r : List ℕ) → s ≡ prepared k → d ≡ sha256 (inner_pad k ++ m) → r ≡ finished s.outer 64 d → r ≡ hmac k m
unfolding hmac prepared
end_is s k m d r e p q =
    let o = ap (λ t. t.outer) e in
    q ∙ ap (λ h. finished h 64 d) o ∙ finished_block (outer_pad k) d (length_outer k) ∙ ap (λ x. sha256 (outer_pad k ++ x)) p

pub mac_is : (s : Key) (k m d r : List ℕ) → s ≡ prepared k → d ≡ finished s.inner 64 m → r ≡ finished s.outer 64 d → r ≡ hmac k m
unfolding prepared
mac_is s k m d r e p q =
    let i = ap (λ t. t.inner) e in
    end_is s k m d r e (p ∙ ap (λ h. finished h 64 m) i ∙ finished_block (inner_pad k) m (length_inner k)) q
