-- The tests decide what they say, so that it does not matter which of two things is compared with the other.
use Rattle.std.proofs.Common.{◌≡◌, ℕ, Bool, List, ◌&&◌, eqb, [], ◌∷◌, Some, None, Option, Bor, Decides, sym, refl, ap, ◌∙◌, arith}
use Rattle.std.specs.List.{slice_get}
use Rattle.std.specs.Option.{option_copied, option_eq}
use Rattle.std.specs.Str.{bytes_eq}
use Rattle.std.proofs.lemmas.Bool.Decides.{same_from_decides, Decides-eqb}
use Rattle.std.proofs.lemmas.Slice.Eq.{bytes_eq-Decides}
use Rattle.device.specs.declared.digests.Data.{Data}
use Rattle.device.specs.declared.digests.Digest.{Digest}
use Rattle.device.specs.Things.{same_data}
use Rattle.verifier.specs.declared.judges.Question.{Question}
use Rattle.verifier.specs.Searches.{is_digest, asks}
use Rattle.verifier.specs.Seats.{begins}

-- of the digests' bytes
pub is_digest_decides : (d e : Digest) → Decides (is_digest d e) (d.bytes ≡ e.bytes)
unfolding is_digest
is_digest_decides d e = bytes_eq-Decides d.bytes e.bytes

-- ---- turned round

turned : {A : Type 0} {x y : A} {b : Bool} → Decides b (y ≡ x) → Decides b (x ≡ y)
turned h = ((λ t. sym (h.0 t)), λ p. h.1 (sym p))

pub same_number_turned : (a b : ℕ) → eqb b a ≡ eqb a b
same_number_turned a b = same_from_decides _ _ (turned (Decides-eqb b a)) (Decides-eqb a b)

bytes_turned : (xs ys : List ℕ) → bytes_eq ys xs ≡ bytes_eq xs ys
bytes_turned xs ys = same_from_decides _ _ (turned (bytes_eq-Decides ys xs)) (bytes_eq-Decides xs ys)

pub is_digest_turned : (d e : Digest) → bytes_eq e.bytes d.bytes ≡ is_digest d e
unfolding is_digest
is_digest_turned d e = bytes_turned d.bytes e.bytes

pub asks_turned : (a : ℕ) (d : Data) (q : Question) → eqb q.chip a && bytes_eq q.«data».bytes d.bytes ≡ asks a d q
unfolding same_data
asks_turned a d q = λ i. same_number_turned a q.chip i && bytes_turned d.bytes q.«data».bytes i

-- ---- of the first digest

pub begins_first : (ds : List Digest) (d : Bor Digest) (o : Option (Bor Digest)) → option_copied o ≡ slice_get ds 0 → option_eq (λ x y. bytes_eq x.now.bytes y.now.bytes) o (Some d) ≡ begins d.now ds
begins_first [] d None e = refl
begins_first [] d (Some x) e = absurd (grind arith)
begins_first (y ∷ ys) d None e = absurd (grind arith)
begins_first (y ∷ ys) d (Some x) e = let is : x.now ≡ y = cc in ap (λ z. bytes_eq z.bytes d.now.bytes) is ∙ is_digest_turned d.now y
