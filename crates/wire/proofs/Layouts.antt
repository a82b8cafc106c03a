-- Words and layouts: taking a word apart and putting its fields together again are inverse to each other.
use Rattle.std.proofs.Common.{◌≡◌, ℕ, suc, ◌+◌, ◌-◌, ◌*◌, ◌^◌, ◌<◌, ◌≤◌, true, ◌&&◌, List, [], ◌∷◌, ◌++◌, length, take, drop, sym, refl, ap, ◌∙◌, subst, arith}
use Rattle.std.specs.Int.Digits as digits
use Rattle.std.proofs.lemmas.Int.Digits.{number_lt}
use Rattle.std.proofs.ByRecursion.{All-take, All-drop}
use Rattle.std.proofs.lemmas.List.{append_assoc, length-append, length-take-le, length-drop, take_at, drop_at, drop-drop, drop_all, take-append-drop, take-append-le, drop-append-le}
use Rattle.std.proofs.lemmas.Bool.{and_parts, and_from}
use Rattle.wire.specs.Layouts as layout
use Rattle.wire.specs.Layouts.{Field, Part, Fits, big, number_at, bytes_of, encoded, total, fields, allowed}
use Rattle.wire.proofs.Bigs.{length_big, number_big, big_number}

-- ---- places

-- a word only grows by its parts
pub grows : (at : ℕ) (ps : List Part) (w : List ℕ) → at ≤ total at ps w
grows at [] w = omega arith
grows at (layout.bytes n ∷ ps) w = let h = grows (at + n) ps w in omega arith
grows at (layout.number width may ∷ ps) w = let h = grows (at + width) ps w in omega arith
grows at (layout.counted width unit may ∷ ps) w = let h = grows (at + width + unit * number_at at width w) ps w in omega arith

-- what follows a word does not change what stands in it
number_at_more : (at width : ℕ) (w rest : List ℕ) → at + width ≤ length w → number_at at width (w ++ rest) ≡ number_at at width w
number_at_more at width w rest h =
    let d = drop-append-le at w rest (omega arith) in
    let l = length-drop at w in
    let t = take-append-le width (drop at w) rest (omega arith) in
    ap (digits.number_from_digits 256) (ap (take width) d ∙ t)

pub total_more : (at : ℕ) (ps : List Part) (w rest : List ℕ) → total at ps w ≤ length w → total at ps (w ++ rest) ≡ total at ps w
total_more at [] w rest h = refl
total_more at (layout.bytes n ∷ ps) w rest h = total_more (at + n) ps w rest h
total_more at (layout.number width may ∷ ps) w rest h = total_more (at + width) ps w rest h
total_more at (layout.counted width unit may ∷ ps) w rest h =
    let g = grows (at + width + unit * number_at at width w) ps w in
    let e = number_at_more at width w rest (omega arith) in
    ap (λ (n : ℕ). total (at + width + unit * n) ps (w ++ rest)) e ∙ total_more (at + width + unit * number_at at width w) ps w rest h

-- ---- what was put together is taken apart

record Front (at size : ℕ) (w front rest : List ℕ) : Type 0 where
  is : take size (drop at w) ≡ front
  then : drop (at + size) w ≡ rest
  within : at + size ≤ length w

front_of : (at size : ℕ) (w front rest : List ℕ) → length front ≡ size → at ≤ length w → drop at w ≡ front ++ rest → Front at size w front rest
front_of at size w front rest l h e =
    let a = ap length e in
    let b = length-append front rest in
    let c = length-drop at w in
    record {
      is = ap (take size) e ∙ take_at front rest size l;
      then = sym (drop-drop size at w) ∙ ap (drop size) e ∙ drop_at front rest size l;
      within = omega arith;
    }

pub record Apart (at : ℕ) (ps : List Part) (fs : List Field) (w : List ℕ) : Type 0 where
  pub long : total at ps w ≡ length w
  pub same : fields at ps w ≡ fs
  pub good : allowed at ps w ≡ true

pub apart : (at : ℕ) {ps : List Part} {fs : List Field} (w : List ℕ) → Fits ps fs → drop at w ≡ encoded fs → at ≤ length w → Apart at ps fs w
apart at w layout.fits_none e h = let a = ap length e in let c = length-drop at w in let z : length w - at ≡ 0 = sym c ∙ a in record { long = omega arith; same = refl; good = refl }
apart at w (layout.fits_bytes {n} {bs} {ps} {fs} l f) e h =
    let k = front_of at n w bs (encoded fs) l h e in
    let t = apart (at + n) w f k.then k.within in
    record { long = t.long; same = λ i. layout.Bytes (k.is i) ∷ t.same i; good = t.good }
apart at w (layout.fits_number {width} {n} {may} {ps} {fs} small good f) e h =
    let k = front_of at width w (big width n) (encoded fs) (length_big width n) h e in
    let m : number_at at width w ≡ n = ap (digits.number_from_digits 256) k.is ∙ number_big width n small in
    let t = apart (at + width) w f k.then k.within in
    record {
      long = t.long;
      same = λ i. layout.Number width (m i) ∷ t.same i;
      good = and_from (may (number_at at width w)) (allowed (at + width) ps w) (ap may m ∙ good) t.good;
    }
apart at w (layout.fits_counted {width} {unit} {n} {may} {bs} {ps} {fs} small l good f) e h =
    let k = front_of at width w (big width n) (bs ++ encoded fs) (length_big width n) h (e ∙ append_assoc (big width n) bs (encoded fs)) in
    let m : number_at at width w ≡ n = ap (digits.number_from_digits 256) k.is ∙ number_big width n small in
    let j = front_of (at + width) (unit * n) w bs (encoded fs) l k.within k.then in
    let t = apart (at + width + unit * n) w f j.then j.within in
    record {
      long = ap (λ (x : ℕ). total (at + width + unit * x) ps w) m ∙ t.long;
      same = ap (λ (x : ℕ). layout.Counted width x (take (unit * x) (drop (at + width) w)) ∷ fields (at + width + unit * x) ps w) m ∙ (λ i. layout.Counted width n (j.is i) ∷ t.same i);
      good = ap (λ (x : ℕ). may x (take (unit * x) (drop (at + width) w)) && allowed (at + width + unit * x) ps w) m ∙ and_from (may n (take (unit * n) (drop (at + width) w))) (allowed (at + width + unit * n) ps w) (ap (may n) j.is ∙ good) t.good;
    }

-- ---- what was taken apart is put together

pub record Together (at : ℕ) (ps : List Part) (w : List ℕ) : Type 0 where
  pub same : encoded (fields at ps w) ≡ drop at w
  pub fit : Fits ps (fields at ps w)

glued : (at size : ℕ) (w front rest : List ℕ) → front ≡ take size (drop at w) → rest ≡ drop (at + size) w → front ++ rest ≡ drop at w
glued at size w front rest f r = (λ i. f i ++ (r ∙ sym (drop-drop size at w)) i) ∙ take-append-drop size (drop at w)

pub length_part : (at size : ℕ) (w : List ℕ) → at + size ≤ length w → length (take size (drop at w)) ≡ size
length_part at size w h = let l = length-drop at w in length-take-le size (drop at w) (omega arith)

record Numbered (at width : ℕ) (w : List ℕ) : Type 0 where
  is : big width (number_at at width w) ≡ take width (drop at w)
  small : number_at at width w < 256 ^ width

numbered : (at width : ℕ) (w : List ℕ) → at + width ≤ length w → digits.AllBelowBase 256 w → Numbered at width w
numbered at width w h u =
    let l = length_part at width w h in
    let v : digits.AllBelowBase 256 (take width (drop at w)) = All-take (λ (d : ℕ). d < 256) width (drop at w) (All-drop (λ (d : ℕ). d < 256) at w u) in
    record {
      is = ap (λ (k : ℕ). big k (number_at at width w)) (sym l) ∙ big_number (take width (drop at w)) v;
      small = subst (λ (k : ℕ). number_at at width w < 256 ^ k) l (number_lt 256 (take width (drop at w)) v);
    }

pub together : (at : ℕ) (ps : List Part) (w : List ℕ) → total at ps w ≡ length w → allowed at ps w ≡ true → digits.AllBelowBase 256 w → Together at ps w
together at [] w e a u = record { same = sym (drop_all at w (omega arith)); fit = layout.fits_none }
together at (layout.bytes n ∷ ps) w e a u =
    let g = grows (at + n) ps w in
    let t = together (at + n) ps w e a u in
    record { same = glued at n w _ _ refl t.same; fit = layout.fits_bytes (length_part at n w (omega arith)) t.fit }
together at (layout.number width may ∷ ps) w e a u =
    let n : ℕ = number_at at width w in
    let g = grows (at + width) ps w in
    let b = and_parts (may n) (allowed (at + width) ps w) a in
    let t = together (at + width) ps w e b.1 u in
    let k = numbered at width w (omega arith) u in
    record { same = glued at width w _ _ k.is t.same; fit = layout.fits_number k.small b.0 t.fit }
together at (layout.counted width unit may ∷ ps) w e a u =
    let n : ℕ = number_at at width w in
    let g = grows (at + width + unit * n) ps w in
    let b = and_parts (may n (take (unit * n) (drop (at + width) w))) (allowed (at + width + unit * n) ps w) a in
    let t = together (at + width + unit * n) ps w e b.1 u in
    let k = numbered at width w (omega arith) u in
    record {
      same = append_assoc (big width n) (take (unit * n) (drop (at + width) w)) _ ∙ glued at width w _ _ k.is (glued (at + width) (unit * n) w _ _ refl t.same);
      fit = layout.fits_counted k.small (length_part (at + width) (unit * n) w (omega arith)) b.0 t.fit;
    }

-- ---- one byte further

pub record Shifted (at to : ℕ) (ps : List Part) (x : ℕ) (w : List ℕ) : Type 0 where
  pub long : total to ps (x ∷ w) ≡ suc (total at ps w)
  pub same : fields to ps (x ∷ w) ≡ fields at ps w
  pub good : allowed to ps (x ∷ w) ≡ allowed at ps w

pub shifted : (at to : ℕ) (ps : List Part) (x : ℕ) (w : List ℕ) → to ≡ suc at → Shifted at to ps x w
shifted at to [] x w e = record { long = e; same = refl; good = refl }
shifted at to (layout.bytes n ∷ ps) x w e =
    let t = shifted (at + n) (to + n) ps x w (omega arith) in
    let d : drop to (x ∷ w) ≡ drop at w = ap (λ (k : ℕ). drop k (x ∷ w)) e in
    record { long = t.long; same = λ i. layout.Bytes (take n (d i)) ∷ t.same i; good = t.good }
shifted at to (layout.number width may ∷ ps) x w e =
    let t = shifted (at + width) (to + width) ps x w (omega arith) in
    let m : number_at to width (x ∷ w) ≡ number_at at width w = ap (λ (k : ℕ). number_at k width (x ∷ w)) e in
    record { long = t.long; same = λ i. layout.Number width (m i) ∷ t.same i; good = λ i. may (m i) && t.good i }
shifted at to (layout.counted width unit may ∷ ps) x w e =
    let m : number_at to width (x ∷ w) ≡ number_at at width w = ap (λ (k : ℕ). number_at k width (x ∷ w)) e in
    let u : unit * number_at to width (x ∷ w) ≡ unit * number_at at width w = ap (λ (k : ℕ). unit * k) m in
    let t = shifted (at + width + unit * number_at at width w) (to + width + unit * number_at to width (x ∷ w)) ps x w (omega arith) in
    let further : to + width ≡ suc (at + width) = omega arith in
    let d : drop (to + width) (x ∷ w) ≡ drop (at + width) w = ap (λ (k : ℕ). drop k (x ∷ w)) further in
    record {
      long = t.long;
      same = λ i. layout.Counted width (m i) (take (u i) (d i)) ∷ t.same i;
      good = λ i. may (m i) (take (u i) (d i)) && t.good i;
    }
