-- What the library's searches find is what the contracts say.
use Rattle.std.proofs.Common.{◌≡◌, Bool, true, false, cond, ◌||◌, ◌==◌, List, [], ◌∷◌, sym, refl, ap, ◌∙◌, Some, None, Option, Bor}
use mathlib.Core.Bool.{and_assoc}
use Rattle.std.specs.List.{list_any, find}
use Rattle.std.specs.Str.{bytes_eq}
use Rattle.std.proofs.lemmas.Bool.Decides.{same_from_decides}
use Rattle.std.proofs.lemmas.Slice.Eq.{bytes_eq-Decides}
use Rattle.device.specs.contracts.chips.SignaturePartialEq.TheImpl as derived
use Rattle.device.specs.declared.chips.Signature.{Signature}
use Rattle.device.specs.declared.digests.Data.{Data}
use Rattle.device.specs.declared.digests.Digest.{Digest}
use Rattle.device.specs.Rows.{same_row}
use Rattle.device.specs.Things.{same_data}
use Rattle.verifier.specs.Searches.{some, is_digest}
use Rattle.verifier.proofs.Searches.{some_any, seek_find}
use Rattle.verifier.proofs.Tests.{is_digest_turned}
use Rattle.fleet.specs.declared.fleets.Shown.{Shown}
use Rattle.device.specs.declared.registers.Register.{Register}
use Rattle.std.specs.Option.{MatchOption, IsSomeAnd, option_map}
use Rattle.fleet.specs.Sights.{any_bad_of, same_signature, ran_of, really_ran_of}

pub data_turned : (d e : Data) → bytes_eq e.bytes d.bytes ≡ same_data d e
unfolding same_data
data_turned d e = let h = bytes_eq-Decides e.bytes d.bytes in same_from_decides _ _ ((λ t. sym (h.0 t)), λ p. h.1 (sym p)) (bytes_eq-Decides d.bytes e.bytes)

pub has_bad : (bad ds : List Digest) → list_any (λ d. list_any (λ e. bytes_eq e.bytes d.bytes) bad) ds ≡ any_bad_of bad ds
unfolding any_bad_of
has_bad bad [] = refl
has_bad bad (d ∷ ds) = (λ i. some_any (is_digest d) (λ e. bytes_eq e.bytes d.bytes) (is_digest_turned d) bad i || has_bad bad ds i) ∙ or_cond (some (is_digest d) bad) (any_bad_of bad ds)
  where
    or_cond : (b r : Bool) → b || r ≡ cond b true r
    or_cond true r = refl
    or_cond false r = refl

-- what a derived == of signatures computes
pub signature_eq : (g : Signature) (x : Shown) → derived.ghosts.eq g x.signature ≡ same_signature g x
unfolding same_data
signature_eq g x = sym (and_assoc (g.chip == x.signature.chip) (same_data g.«data» x.signature.«data») (same_row g.register x.signature.register))

-- what was found is the latest with this signature; a step further gives what had been loaded then
pub find_ran : (g : Signature) (xs : List Shown) (o : Option (Bor Shown)) (r : Option Register) (P : Bor Shown → Register → Type 0) → MatchOption o (r ≡ None) (λ x. IsSomeAnd r (P x)) → ((x : Bor Shown) (y : Register) → P x y → y ≡ x.now.ran) → option_map (λ x. x.now) o ≡ find (λ x. derived.ghosts.eq g x.signature) xs → r ≡ really_ran_of xs g
find_ran g xs o r P gave is found = stands o r gave ∙ ap ran_of (found ∙ seek_find (same_signature g) _ (signature_eq g) xs)
  where
    stands : (o : Option (Bor Shown)) (r : Option Register) → MatchOption o (r ≡ None) (λ x. IsSomeAnd r (P x)) → r ≡ ran_of (option_map (λ x. x.now) o)
    stands None r h = h
    stands (Some x) None h = absurd h
    stands (Some x) (Some y) h = ap Some (is x y h)
