-- From two rows with one sum to two texts with one hash.
use Rattle.std.proofs.Common.{◌≡◌, ℕ, Bool, true, false, ◌⊎◌, List, [], ◌∷◌, ◌++◌, length, take, drop, sym, refl, ap, ◌∙◌, inl, inr, arith}
use Rattle.std.specs.Str.{bytes_eq}
use Rattle.std.proofs.lemmas.Slice.Eq.{bytes_eq-Decides}
use Rattle.std.proofs.lemmas.List.{take_at, drop_at}
use Rattle.hash.specs.Sha256.{sha256}
use Rattle.hash.proofs.Sizes.{length_sha256}
use Rattle.sums.specs.Sums.{sum_by}
use Rattle.sums.specs.Collisions.{Clash, Zeros, Colliding, Sha256Collides}

sum_length : (h : List ℕ → List ℕ) → ((x : List ℕ) → length (h x) ≡ 32) → (r : List (List ℕ)) → length (sum_by h r) ≡ 32
sum_length h long [] = refl
sum_length h long (d ∷ ds) = long (sum_by h ds ++ d)

pub colliding : Colliding
colliding h long [] [] f g e = inl refl
colliding h long [] (d ∷ s) f g e = inr (inr (record { one = sum_by h s ++ d; is = sym e }))
colliding h long (c ∷ r) [] f g e = inr (inr (record { one = sum_by h r ++ c; is = e }))
colliding h long (c ∷ r) (d ∷ s) f g e = by (bytes_eq (sum_by h r ++ c) (sum_by h s ++ d)) refl (λ q. colliding h long r s f.1 g.1 q)
  where
    by : (b : Bool) → bytes_eq (sum_by h r ++ c) (sum_by h s ++ d) ≡ b → (sum_by h r ≡ sum_by h s → (r ≡ s) ⊎ (Clash h ⊎ Zeros h)) → (c ∷ r ≡ d ∷ s) ⊎ (Clash h ⊎ Zeros h)
    by false is rest = inr (inl (record { one = sum_by h r ++ c; other = sum_by h s ++ d; differ = λ same. absurd (grind (arith, (bytes_eq-Decides (sum_by h r ++ c) (sum_by h s ++ d)).1 same)); same = e }))
    by true is rest = onward (rest front)
      where
        text : sum_by h r ++ c ≡ sum_by h s ++ d
        text = (bytes_eq-Decides _ _).0 is

        front : sum_by h r ≡ sum_by h s
        front = sym (take_at (sum_by h r) c 32 (sum_length h long r)) ∙ ap (take 32) text ∙ take_at (sum_by h s) d 32 (sum_length h long s)

        last : c ≡ d
        last = sym (drop_at (sum_by h r) c 32 (sum_length h long r)) ∙ ap (drop 32) text ∙ drop_at (sum_by h s) d 32 (sum_length h long s)

        onward : (r ≡ s) ⊎ (Clash h ⊎ Zeros h) → (c ∷ r ≡ d ∷ s) ⊎ (Clash h ⊎ Zeros h)
        onward (inl same) = inl (λ i. last i ∷ same i)
        onward (inr found) = inr found

pub sha256_collides : Sha256Collides
sha256_collides r s f g e = colliding sha256 length_sha256 r s f g e
