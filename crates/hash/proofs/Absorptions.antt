-- Blocks taken in one after the other.
use Rattle.std.proofs.Common.{◌≡◌, ℕ, zero, suc, ◌+◌, ◌*◌, ◌/◌, ◌%◌, ◌<◌, ◌≤◌, List, [], ◌++◌, length, take, drop, fold, ap, ◌∙◌, suc-add, zero-add, arith, length-append, length-drop}
use Rattle.std.specs.Simd.{first_chunks}
use Rattle.std.proofs.lemmas.List.Sums.{fold-append}
use Rattle.std.proofs.lemmas.List.{drop-append-le, nil_from_length, take_all, take-append-le, take-append-drop, length-take-le}
use Rattle.hash.specs.Hashers.{rest}
use Rattle.hash.specs.Sha256.{absorbed, compressed}

chunked_append
    : (n k : ℕ) (a b : List ℕ) → length a ≡ n * 64 → first_chunks 64 (n + k) (a ++ b) ≡ first_chunks 64 n a ++ first_chunks 64 k b
chunked_append zero k a b e =
    let z : a ≡ [] = nil_from_length a (omega arith) in
    rw (z, zero-add)
chunked_append (suc n) k a b e =
    let l : 64 ≤ length a = omega arith in
    let t = take-append-le 64 a b l in
    let d = drop-append-le 64 a b l in
    let r = chunked_append n k (drop 64 a) b (simp length-drop (omega arith)) in
    rw (suc-add, t, d, r)

pub absorbed_append
    : (h a b : List ℕ) (n : ℕ) → length a ≡ n * 64 → absorbed h (a ++ b) ≡ absorbed (absorbed h a) b
unfolding absorbed
absorbed_append h a b n e =
    let p : length (a ++ b) / 64 ≡ n + length b / 64 = simp length-append (omega arith) in
    let q : length a / 64 ≡ n = omega arith in
    rw (p, q) (ap (fold compressed h) (chunked_append n (length b / 64) a b e) ∙ fold-append compressed h (first_chunks 64 n a) _)

pub absorbed_block : (h b : List ℕ) → length b ≡ 64 → absorbed h b ≡ compressed h b
unfolding absorbed
absorbed_block h b e = rw e (ap (compressed h) (take_all 64 b (omega arith)))

pub absorbed_two : (h a b : List ℕ) → length a ≡ 64 → length b ≡ 64 → absorbed h (a ++ b) ≡ compressed (compressed h a) b
absorbed_two h a b l k =
    let p = absorbed_append h a b 1 l in
    let q = absorbed_block h a l in
    p ∙ absorbed_block (absorbed h a) b k ∙ ap (λ x. compressed x b) q

pub absorbed_short : (h t : List ℕ) → length t < 64 → absorbed h t ≡ h
unfolding absorbed
absorbed_short h t l = let z : length t / 64 ≡ 0 = omega arith in rw z

-- the blocks as they are cut from a slice
pub absorbed_blocks
    : (h m r : List ℕ) (bs : List (List ℕ)) → bs ≡ first_chunks 64 (length m / 64) m → r ≡ fold compressed h bs → r ≡ absorbed h m
unfolding absorbed
absorbed_blocks h m r bs c e = e ∙ ap (fold compressed h) c

pub length_rest : (m : List ℕ) → length (rest m) ≡ length m % 64
length_rest m = simp length-drop (omega arith)

-- the whole blocks of m
abbrev pub front : List ℕ → List ℕ
front m = take (length m / 64 * 64) m

pub length_front : (m : List ℕ) → length (front m) ≡ length m / 64 * 64
length_front m = length-take-le (length m / 64 * 64) m (omega arith)

pub absorbed_front : (h m : List ℕ) → absorbed h (front m) ≡ absorbed h m
absorbed_front h m =
    let w = take-append-drop (length m / 64 * 64) m in
    let a = absorbed_append h (front m) (rest m) (length m / 64) (length_front m) in
    let l = length_rest m in
    let s = absorbed_short (absorbed h (front m)) (rest m) (omega arith) in
    cc
