-- Four states of sixteen words beside one another: word i of each state is in vector i.
use Rattle.std.proofs.Common.{◌≡◌, ℕ, zero, suc, ◌<◌, List, [], ◌∷◌, length, get_or, refl, sym, ap, ◌∙◌, arith}
use lib.ListN.{length-map}
use Rattle.std.proofs.lemmas.Grind.{same_number_lists}
use Rattle.std.proofs.lemmas.List.{get_or-map}
use Rattle.cipher.specs.Rounds.{lane}

-- the four lanes
abbrev pub lanes : List (List ℕ) → List (List ℕ)
lanes s = lane 0 s ∷ lane 1 s ∷ lane 2 s ∷ lane 3 s ∷ []

pub lane_at : (s : List (List ℕ)) (k : ℕ) → k < 4 → get_or (lanes s) k [] ≡ lane k s
lane_at s zero l = refl
lane_at s (suc zero) l = refl
lane_at s (suc (suc zero)) l = refl
lane_at s (suc (suc (suc zero))) l = refl
lane_at s (suc (suc (suc (suc k)))) l = absurd (omega arith)

pub same_lane : (k : ℕ) (xs : List ℕ) (s : List (List ℕ)) → length xs ≡ 16 → length s ≡ 16 → ((i : ℕ) → i < 16 → get_or xs i 0 ≡ get_or (get_or s i []) k 0) → xs ≡ lane k s
same_lane k xs s long_xs long_s same =
    same_number_lists xs (lane k s) (omega (arith, length-map s (λ w. get_or w k 0)))
    (λ i l. same i (omega arith) ∙ sym (get_or-map (λ w. get_or w k 0) s i [] 0 (omega arith)))

pub four_items : (xs : List (List ℕ)) → length xs ≡ 4 → xs ≡ get_or xs 0 [] ∷ get_or xs 1 [] ∷ get_or xs 2 [] ∷ get_or xs 3 [] ∷ []
four_items (a ∷ b ∷ c ∷ d ∷ []) e = refl
four_items xs e = absurd (omega arith)

pub same_lanes : (a b c d : List ℕ) (s : List (List ℕ)) → length a ≡ 16 → length b ≡ 16 → length c ≡ 16 → length d ≡ 16 → length s ≡ 16 → ((i : ℕ) → i < 16 → get_or s i [] ≡ get_or a i 0 ∷ get_or b i 0 ∷ get_or c i 0 ∷ get_or d i 0 ∷ []) → (a ≡ lane 0 s) × (b ≡ lane 1 s) × (c ≡ lane 2 s) × (d ≡ lane 3 s)
same_lanes a b c d s long_a long_b long_c long_d long same = (
  same_lane 0 a s long_a long (λ i l. ap (λ v. get_or v 0 0) (sym (same i l))),
  same_lane 1 b s long_b long (λ i l. ap (λ v. get_or v 1 0) (sym (same i l))),
  same_lane 2 c s long_c long (λ i l. ap (λ v. get_or v 2 0) (sym (same i l))),
  same_lane 3 d s long_d long (λ i l. ap (λ v. get_or v 3 0) (sym (same i l))),
)
