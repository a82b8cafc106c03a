-- Sums of two states, word by word, in every lane.
use Rattle.std.proofs.Common.{◌≡◌, ℕ, ◌<◌, List, [], ◌∷◌, map, length, get_or, sym, ◌∙◌, arith}
use lib.Lanes.{zip2}
use lib.LanesLaws.{length-zip2}
use lib.ListN.{length-map}
use Rattle.std.proofs.lemmas.List.{get_or-map}
use Rattle.std.proofs.lemmas.Grind.{same_number_lists}
use Rattle.std.proofs.lemmas.Simd.{get_or-zip2}
use Rattle.cipher.specs.Rounds.{plus}

-- each word of sum has in the lane that f reads the sum of the words at its place in t and s
pub same_sums : {W : Type 0} (f : W → ℕ) (sum t s : List W) → length sum ≡ 16 → length t ≡ 16 → length s ≡ 16 → ((i : ℕ) (w : W) → i < 16 → f (get_or sum i w) ≡ plus (get_or (map f t) i 0) (get_or (map f s) i 0)) → map f sum ≡ zip2 plus (map f t) (map f s)
same_sums f [] t s long long_t long_s e = absurd (omega arith)
same_sums f (w ∷ ws) t s long long_t long_s e =
    let same = length-map t f ∙ long_t ∙ sym (length-map s f ∙ long_s) in
    let long_zip = length-zip2 plus (map f t) (map f s) same in
    same_number_lists (map f (w ∷ ws)) (zip2 plus (map f t) (map f s)) (omega (arith, length-map (w ∷ ws) f, length-map t f, long_zip))
    (λ k l.
    get_or-map f (w ∷ ws) k w 0 (omega (arith, length-map (w ∷ ws) f))
    ∙ e k w (omega (arith, length-map (w ∷ ws) f))
    ∙ sym (get_or-zip2 plus (map f t) (map f s) k 0 0 0 (omega (arith, length-map (w ∷ ws) f, length-map t f)) (omega (arith, length-map (w ∷ ws) f, length-map s f))))
