-- A quarter round on words of several lanes is one on each lane.
use Rattle.std.proofs.Common.{◌≡◌, ℕ, ◌<◌, List, map, length, get_or, set, sym, ap, ◌∙◌}
use Rattle.std.proofs.lemmas.List.{map-set, get_or-map}
use Rattle.cipher.specs.Rounds.{quarter, put4, quarter_at_of, each4}

module _ {W : Type 0} (f : W → ℕ) where
  put4_lane : (a b c d : ℕ) (q : W × W × W × W) (s : List W) → map f (set (set (set (set s a q.0) b q.1) c q.2) d q.3) ≡ put4 a b c d (each4 f q) (map f s)
  put4_lane a b c d q s = simp map-set

  pub read_lane : (s : List W) (i : ℕ) (w : W) → i < length s → f (get_or s i w) ≡ get_or (map f s) i 0
  read_lane s i w l = sym (get_or-map f s i w 0 l)

  -- q is what came of the words at a, b, c and d
  pub quarter_lane : (a b c d : ℕ) (wa wb wc wd : W) (q : W × W × W × W) (s : List W) → f wa ≡ get_or (map f s) a 0 → f wb ≡ get_or (map f s) b 0 → f wc ≡ get_or (map f s) c 0 → f wd ≡ get_or (map f s) d 0 → each4 f q ≡ quarter (f wa) (f wb) (f wc) (f wd) → map f (set (set (set (set s a q.0) b q.1) c q.2) d q.3) ≡ quarter_at_of a b c d (map f s)
  unfolding quarter_at_of
  quarter_lane a b c d wa wb wc wd q s ea eb ec ed e =
      put4_lane a b c d q s ∙ ap (λ p. put4 a b c d p (map f s)) (e ∙ λ i. quarter (ea i) (eb i) (ec i) (ed i))
