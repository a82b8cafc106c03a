-- Messages taken in parts.
use Rattle.std.proofs.Common.{◌≡◌, ℕ, ◌+◌, ◌-◌, ◌*◌, ◌/◌, ◌%◌, ◌^◌, ◌<◌, ◌≤◌, List, [], ◌++◌, length, take, drop, replicate, fold, sym, refl, ap, ◌∙◌, append_assoc, append-nil, zero-add, arith, lit<, length-append}
use Rattle.std.specs.Simd.{first_chunks}
use Rattle.std.proofs.lemmas.List.{drop_at, take-append-drop}
use Rattle.hash.specs.Blocks.{filled}
use Rattle.hash.specs.Hashers.{after, closed, finished, rest}
use Rattle.hash.specs.Sha256.{absorbed, compressed, initial, sha256}
use Rattle.hash.specs.declared.hashers.Hasher.{Hasher}
use Rattle.hash.proofs.Absorptions.{absorbed_append, absorbed_block, absorbed_blocks, absorbed_front, absorbed_short, front, length_front, length_rest}
use Rattle.hash.proofs.Fillings.{filled_whole, put_filled}
use Rattle.hash.proofs.Paddings.{closed_mod, closed_rest}

-- what a close promises of the hash value h, its block and the number of bytes n
abbrev Closes : List ℕ → List ℕ → ℕ → List ℕ → Type 0
Closes h block n r = (t : List ℕ) → length t ≡ n % 64 → block ≡ filled t → r ≡ closed h t n

pub finished_is
    : (h m left block s r : List ℕ) (bs : List (List ℕ)) (k n : ℕ) → bs ≡ first_chunks 64 (length m / 64) m → left ≡ rest m
    → s ≡ fold compressed h bs → block ≡ filled left → n ≡ (k + length m) % 2 ^ 64 → k % 64 ≡ 0 → Closes s block n r
    → r ≡ finished h k m
finished_is h m left block s r bs k n c l a f e z p =
    let q = length_rest m in
    let j = ap length l in
    let u = absorbed_blocks h m s bs c a in
    let v = p left (omega arith) f in
    let w = closed_mod (absorbed h m) (rest m) (k + length m) in
    let x = closed_rest h m (k + length m) in
    cc

pub sha256_is : (m : List ℕ) → closed initial m (length m) ≡ sha256 m
unfolding sha256 closed
sha256_is m = refl

pub sha256_finished : (m : List ℕ) → finished initial 0 m ≡ sha256 m
sha256_finished m = ap (closed initial m) (zero-add (length m)) ∙ sha256_is m

pub finish_is : (s : Hasher) (m r : List ℕ) → s ≡ after m → Closes s.h s.tail s.len r → r ≡ sha256 m
unfolding after
finish_is s m r e p =
    let h = ap (λ q. q.h) e in
    let t = ap (λ q. q.tail) e in
    let n = ap (λ q. q.len) e in
    let l = length_rest m in
    let v = p (rest m) (omega arith) t in
    let w = closed_mod (absorbed initial m) (rest m) (length m) in
    let x = closed_rest initial m (length m) in
    let y = sha256_is m in
    cc

-- the bytes that are kept, with i after them
put_tail
    : (s : Hasher) (m i block : List ℕ) → s ≡ after m → s.len % 64 + length i ≤ 64
    → block ≡ take (s.len % 64) s.tail ++ (i ++ drop (s.len % 64 + length i) s.tail) → block ≡ filled (rest m ++ i)
unfolding after
put_tail s m i block e l b =
    let t = ap (λ q. q.tail) e in
    let k = ap (λ q. q.len) e in
    let r = length_rest m in
    let p = put_filled (rest m) i (s.len % 64) (omega arith) l in
    cc

-- a hasher by any parts of the message: whole blocks a, and t after them
after_parts
    : (m a t : List ℕ) (n : ℕ) → m ≡ a ++ t → length a ≡ n * 64 → length t < 64
    → record { h = absorbed initial a; tail = filled t; len = length m % 2 ^ 64 } ≡ after m
unfolding after
after_parts m a t n e l s =
    let k = ap length e ∙ length-append a t in
    let p = absorbed_append initial a t n l in
    let q = absorbed_short (absorbed initial a) t s in
    let h : absorbed initial a ≡ absorbed initial m = cc in
    let w : length m / 64 * 64 ≡ length a = omega arith in
    let d = drop_at a t (length m / 64 * 64) (sym w) in
    let r : t ≡ rest m = cc in
    λ i. record { h = h i; tail = filled (r i); len = length m % 2 ^ 64 }

pub after_block
    : (h b : List ℕ) → length b ≡ 64 → h ≡ compressed initial b → record { h = h; tail = replicate 64 0; len = 64 } ≡ after b
unfolding filled
after_block h b l e =
    let p = after_parts b b [] 1 (sym (append-nil b)) l (lit< tt) in
    let q : h ≡ absorbed initial b = e ∙ sym (absorbed_block initial b l) in
    let n : 64 ≡ length b % 2 ^ 64 = omega arith in
    (λ i. record { h = q i; tail = replicate 64 0; len = n i }) ∙ p

pub update_short
    : (s : Hasher) (m i block : List ℕ) (n : ℕ) → s ≡ after m → length i < 64 - s.len % 64
    → block ≡ take (s.len % 64) s.tail ++ (i ++ drop (s.len % 64 + length i) s.tail) → n ≡ (s.len + length i) % 2 ^ 64
    → record { h = s.h; tail = block; len = n } ≡ after (m ++ i)
unfolding after
update_short s m i block n e l b c =
    let k = ap (λ q. q.len) e in
    let r = length_rest m in
    let w = take-append-drop (length m / 64 * 64) m in
    let x : m ++ i ≡ front m ++ (rest m ++ i) = ap (λ z. z ++ i) (sym w) ∙ append_assoc (front m) (rest m) i in
    let y = after_parts (m ++ i) (front m) (rest m ++ i) (length m / 64) x (length_front m) (simp length-append (omega arith)) in
    let h : s.h ≡ absorbed initial (front m) = ap (λ q. q.h) e ∙ sym (absorbed_front initial m) in
    let t = put_tail s m i block e (omega arith) b in
    let v : n ≡ length (m ++ i) % 2 ^ 64 = simp length-append (omega arith) in
    (λ j. record { h = h j; tail = t j; len = v j }) ∙ y

regrouped
    : (m i first more a b c d : List ℕ) → a ++ b ≡ m → c ++ d ≡ more → i ≡ first ++ more → m ++ i ≡ ((a ++ (b ++ first)) ++ c) ++ d
regrouped m i first more a b c d p q r =
    let s : ((a ++ (b ++ first)) ++ c) ++ d ≡ (a ++ b) ++ (first ++ (c ++ d)) = simp append_assoc in
    cc

pub update_long
    : (s : Hasher) (m i first more block o h tail : List ℕ) (n : ℕ) → s ≡ after m → i ≡ first ++ more → length first ≡ 64 - s.len % 64
    → block ≡ take (s.len % 64) s.tail ++ (first ++ drop (s.len % 64 + length first) s.tail)
    → o ≡ compressed s.h block → h ≡ absorbed o more → tail ≡ filled (rest more) → n ≡ (s.len + length i) % 2 ^ 64
    → record { h = h; tail = tail; len = n } ≡ after (m ++ i)
unfolding after
update_long s m i first more block o h tail n e f l b g a t c =
    let k = ap (λ q. q.len) e in
    let r = length_rest m in
    let mid : List ℕ = rest m ++ first in
    let long : length mid ≡ 64 = length-append (rest m) first ∙ omega arith in
    let own : block ≡ mid = put_tail s m first block e (omega arith) b ∙ filled_whole mid long in
    let start : List ℕ = front m ++ mid in
    let blocks : length start ≡ (length m / 64 + 1) * 64 = length-append (front m) mid ∙ omega (arith, length_front m) in
    let all : length (start ++ front more) ≡ (length m / 64 + 1 + length more / 64) * 64 =
    length-append start (front more) ∙ omega (arith, length_front more)
    in
    let w = take-append-drop (length m / 64 * 64) m in
    let v = take-append-drop (length more / 64 * 64) more in
    let x = regrouped m i first more (front m) (rest m) (front more) (rest more) w v f in
    let y = after_parts (m ++ i) (start ++ front more) (rest more) _ x all (omega (arith, length_rest more)) in
    let p = absorbed_append initial start (front more) _ blocks in
    let q = absorbed_append initial (front m) mid (length m / 64) (length_front m) in
    let d = absorbed_front initial m in
    let one = absorbed_block (absorbed initial m) mid long in
    let two = absorbed_front (compressed (absorbed initial m) mid) more in
    let z = ap (λ q. q.h) e in
    let u : h ≡ absorbed initial (start ++ front more) = cc in
    let j : n ≡ length (m ++ i) % 2 ^ 64 = simp length-append (omega arith) in
    (λ k. record { h = u k; tail = t k; len = j k }) ∙ y
