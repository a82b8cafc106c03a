-- Blocks that are filled from the front.
use Rattle.std.proofs.Common.{◌≡◌, ℕ, suc, ◌+◌, ◌-◌, ◌<◌, ◌≤◌, List, ◌∷◌, ◌++◌, length, take, drop, set, replicate, ap, append_assoc, append-nil, arith, length-append}
use lib.ListN.{length-replicate}
use borrow.Rule.Slice.PartMut.{put_mid}
use Rattle.std.proofs.lemmas.List.{drop_all, drop_at, drop-drop, drop-replicate, set_at, take_at}
use Rattle.hash.specs.Blocks.{filled}

-- what a copy into a part leaves
pub put_is
    : (at k : ℕ) (block part ys : List ℕ) → ys ≡ part → k ≡ length part
    → put_mid at k block ys ≡ take at block ++ (part ++ drop (at + length part) block)
put_is at k block part ys e n = rw (e, n) (ap (λ r. take at block ++ (part ++ r)) (drop-drop (length part) at block))

-- a copy to the start of a block of zeros
pub fill_is : (part ys : List ℕ) → ys ≡ part → ys ++ drop (length part) (replicate 64 0) ≡ filled part
unfolding filled
fill_is part ys e = rw e (ap (λ zs. part ++ zs) (drop-replicate (length part) 64 0))

-- a copy to the end of a block
pub put_last
    : (block part ys : List ℕ) → length block ≡ 64 → ys ≡ part → length part ≡ 8
    → take 56 block ++ (ys ++ drop (56 + length ys) block) ≡ take 56 block ++ part
put_last block part ys l e n =
    let k = ap length e in
    let d = drop_all (56 + length ys) block (omega arith) in
    let a = append-nil part in
    cc

pub length_filled : (t : List ℕ) → length t ≤ 64 → length (filled t) ≡ 64
unfolding filled
length_filled t h = simp (length-append, length-replicate) (omega arith)

pub filled_whole : (t : List ℕ) → length t ≡ 64 → filled t ≡ t
unfolding filled
filled_whole t e = rw e (append-nil t)

pub put_filled
    : (t i : List ℕ) (u : ℕ) → length t ≡ u → u + length i ≤ 64
    → take u (filled t) ++ (i ++ drop (u + length i) (filled t)) ≡ filled (t ++ i)
unfolding filled
put_filled t i u e h =
    let zs : List ℕ = replicate {A = ℕ} (64 - length t) 0 in
    let a = take_at t zs u e in
    let b = drop_at t zs u e in
    let d = drop-drop (length i) u (t ++ zs) in
    let r = drop-replicate {X = ℕ} (length i) (64 - length t) 0 in
    let n : 64 - length t - length i ≡ 64 - length (t ++ i) = simp length-append (omega arith) in
    let s = append_assoc t i (replicate {A = ℕ} (64 - length (t ++ i)) 0) in
    cc

-- the one bit after t
pub marked : (t : List ℕ) (u : ℕ) → length t ≡ u → u < 64 → set (filled t) u 0x80 ≡ t ++ (0x80 ∷ replicate (63 - u) 0)
unfolding filled
marked t u e h =
    let n : 64 - length t ≡ suc (63 - u) = omega arith in
    rw n (set_at t 0 (replicate (63 - u) 0) 0x80 u e)
