-- Rows that grow by one digest, and their flags.
use Rattle.std.proofs.Common.{◌≡◌, ℕ, suc, ◌+◌, ◌-◌, ◌<◌, ◌≤◌, Bool, false, List, [], ◌∷◌, ◌++◌, map, reverse, length, get_or, take, drop, set, replicate, Some, None, Option, sym, refl, ap, ◌∙◌, subst, append_assoc, arith}
use mathlib.Core.List.{reverse-cons}
use Rattle.std.proofs.lemmas.List.{at_drop_more, at_drop_all, set_at, map_more, map-append, length-map, length-take-le}
use Rattle.device.specs.declared.digests.Digest.{Digest}
use Rattle.device.specs.declared.registers.Register.{Register}
use Rattle.device.specs.Rows.{words, pushed}
use Rattle.device.proofs.Rows.{words_more}
use Rattle.verifier.specs.Rows.{filled, gathered}

pub filled_none : (ds : List Digest) → filled None ds ≡ None
unfolding filled
filled_none ds = refl

some_is : {A : Type 0} {x y : A} → Some x ≡ Some y → x ≡ y
some_is e = cc

filled_nil : (r : Register) → filled (Some r) [] ≡ Some r
unfolding filled
filled_nil r = refl

filled_cons : (r : Register) (d : Digest) (ds : List Digest) → filled (Some r) (d ∷ ds) ≡ filled (pushed r d) ds
unfolding filled
filled_cons r d ds = refl

pub gather_more : (r : Register) (ds : List Digest) (i : ℕ) (d : Digest) (o : Option Register) → i < length ds → filled (Some r) (drop i ds) ≡ gathered ds → o ≡ pushed r (get_or ds i d) → filled o (drop (i + 1) ds) ≡ gathered ds
gather_more r ds i d o h e p = ap (λ q. filled q (drop (i + 1) ds)) p ∙ sym (filled_cons r (get_or ds i d) (drop (i + 1) ds)) ∙ sym (at_drop_more (filled (Some r)) ds i d h) ∙ e

pub gather_full : (r : Register) (ds : List Digest) (i : ℕ) (d : Digest) → i < length ds → filled (Some r) (drop i ds) ≡ gathered ds → None ≡ pushed r (get_or ds i d) → None ≡ gathered ds
gather_full r ds i d h e p = sym (filled_none (drop (i + 1) ds)) ∙ gather_more r ds i d None h e p

pub gather_end : (r : Register) (ds : List Digest) (i : ℕ) → length ds ≤ i → filled (Some r) (drop i ds) ≡ gathered ds → Some r ≡ gathered ds
gather_end r ds i h e = sym (filled_nil r) ∙ sym (at_drop_all (filled (Some r)) ds i h) ∙ e

-- one flag more
pub flag_step : {A : Type 0} (f : A → Bool) (ds : List A) (i : ℕ) (d : A) (known : List Bool) (b : Bool) (es : List A) → length ds ≤ 16 → es ≡ ds → i < length es → known ≡ map f (take i ds) ++ replicate (16 - i) false → b ≡ f (get_or es i d) → set known i b ≡ map f (take (i + 1) ds) ++ replicate (16 - (i + 1)) false
flag_step f ds i d known b es long same below e is =
    let h : i < length ds = subst (λ l. i < length l) same below in
    let next : 16 - i ≡ suc (16 - (i + 1)) = omega arith in
    let here : length (map f (take i ds)) ≡ i = length-map (take i ds) f ∙ length-take-le i ds (omega arith) in
    (λ k. set (e k) i (is k)) ∙ ap (λ l. set (map f (take i ds) ++ replicate (16 - i) false) i (f (get_or l i d))) same ∙ ap (λ n. set (map f (take i ds) ++ replicate n false) i (f (get_or ds i d))) next ∙ set_at (map f (take i ds)) false (replicate (16 - (i + 1)) false) (f (get_or ds i d)) i here ∙ sym (ap (λ l. l ++ replicate (16 - (i + 1)) false) (map_more f ds i d h) ∙ append_assoc (map f (take i ds)) (f (get_or ds i d) ∷ []) (replicate (16 - (i + 1)) false))

-- what a register holds with all of these digests more
pub filled_words : (r : Register) (ds : List Digest) (s : Register) → filled (Some r) ds ≡ Some s → words s ≡ map (λ d. d.bytes) (reverse ds) ++ words r
filled_words r [] s e = let is : r ≡ s = some_is (sym (filled_nil r) ∙ e) in ap words (sym is)
filled_words r (d ∷ ds) s e = by (pushed r d) refl (λ t h. filled_words t ds s h)
  where
    by : (o : Option Register) → pushed r d ≡ o → ((t : Register) → filled (Some t) ds ≡ Some s → words s ≡ map (λ x. x.bytes) (reverse ds) ++ words t) → words s ≡ map (λ x. x.bytes) (reverse (d ∷ ds)) ++ words r
    by None p rest = let z : None ≡ Some s = sym (filled_none ds) ∙ sym (ap (λ o. filled o ds) p) ∙ sym (filled_cons r d ds) ∙ e in absurd (grind arith)
    by (Some t) p rest =
        rest t (sym (ap (λ o. filled o ds) p) ∙ sym (filled_cons r d ds) ∙ e) ∙ ap (λ l. map (λ x. x.bytes) (reverse ds) ++ l) (words_more r t d p) ∙ sym (append_assoc (map (λ x. x.bytes) (reverse ds)) (d.bytes ∷ []) (words r)) ∙ ap (λ l. l ++ words r) (sym (ap (map (λ x. x.bytes)) (reverse-cons d ds) ∙ map-append (λ x. x.bytes) (reverse ds) (d ∷ [])))
