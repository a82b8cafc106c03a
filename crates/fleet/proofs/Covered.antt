-- A run that meets all that is asked of its events.
use Rattle.std.proofs.Common.{◌≡◌, ℕ, zero, suc, ◌<◌, Bool, true, false, cond, not, List, [], ◌∷◌, get_or, Some, None, Option, Ok, Result, sym, refl, ◌∙◌, subst, arith}
use mathlib.Core.List.Memᴰ
use Rattle.std.specs.Str.{bytes_eq}
use Rattle.std.proofs.lemmas.Slice.Eq.{bytes_eq-Decides}
use Rattle.model.specs.Term.{has}
use Rattle.model.specs.World.{Programs}
use Rattle.model.specs.Effect.{made}
use Rattle.device.specs.declared.digests.Data.{Data}
use Rattle.device.specs.Things.{same_data}
use Rattle.boot.specs.Disks.{programs_of}
use Rattle.boot.specs.Machines.{load_all_of, new_machine}
use Rattle.boot.specs.Starts.{follow}
use Rattle.verifier.specs.declared.judges.Fault.{Fault}
use Rattle.verifier.specs.declared.judges.Said.{Said}
use Rattle.verifier.specs.declared.judges.Said.TheVariants as said
use Rattle.verifier.specs.Searches as searches
use Rattle.verifier.specs.Searches.{some, is_digest}
use Rattle.verifier.specs.Rows.{filled}
use Rattle.verifier.specs.Seats.{new_seat}
use Rattle.fleet.specs.Sights.{any_bad_of}
use Rattle.fleet.specs.Makes.{Each, Begins}
use Rattle.fleet.specs.Runs.{Ran, Ready, Agrees}
use Rattle.fleet.specs.Worlds.{Setting}
use Rattle.fleet.specs.Cases.{first, b, drawn_bytes, case_a, new_village, log_of, end_of, Covered}

-- all programs but b are good
programs : Programs
unfolding searches.some searches.is_digest
programs = record { good = λ d. not (some (is_digest (record { bytes = d })) (b ∷ [])); first = first.bytes; first_good = refl }

abbrev names : List ℕ → Option ℕ
names x = cond (bytes_eq x (drawn_bytes 20).bytes) (Some 0) None

named : (x : List ℕ) (n : ℕ) → names x ≡ Some n → x ≡ (drawn_bytes 20).bytes
named x n e = by (bytes_eq x (drawn_bytes 20).bytes) refl e
  where
    by : (t : Bool) → bytes_eq x (drawn_bytes 20).bytes ≡ t → cond t (Some 0) None ≡ Some n → x ≡ (drawn_bytes 20).bytes
    by true is f = (bytes_eq-Decides x _).0 is
    by false is f = absurd (grind arith)

abbrev setting : Setting
setting = record { programs = programs; names = names; apart = λ x y n e f. named x n e ∙ sym (named y n f) }

one : {A : Type 0} (f : ℕ → A) (x : A) → x ≡ f 0 → Each f 1 (x ∷ [])
one f x e = record { long = refl; each = λ i d below. at i below d }
  where
    at : (i : ℕ) → i < 1 → (d : _) → get_or (x ∷ []) i d ≡ f i
    at zero below d = e
    at (suc i) below d = absurd (omega arith)

begun : Begins first (b ∷ []) 1 1 new_village
begun = record { first_is = refl; bad_is = refl; machines_are = one new_machine _ refl; seats_are = one (λ _. new_seat first) _ refl; disk_is = refl; heard_is = refl; shown_is = refl }

agrees : Agrees setting new_village
unfolding programs
agrees = (refl, λ d. refl)

asked_with : {a c : ℕ} {d e : Data} → ◌≡◌ {A = Result Said Fault} (Ok (said.Asks a d)) (Ok (said.Asks c e)) → d ≡ e
asked_with is = cc

ran : Ran new_village (log_of new_village case_a) (end_of new_village case_a)
unfolding same_data programs_of load_all_of follow searches.some searches.seek searches.place searches.is_digest filled any_bad_of
ran = (refl, (refl, (refl, (refl, (refl, (refl, (refl, (refl, (refl, (refl, (refl, (refl, refl))))))))))))

ready : Ready setting new_village (log_of new_village case_a) made
unfolding same_data programs_of load_all_of follow searches.some searches.seek searches.place searches.is_digest filled any_bad_of
ready = (tt, (tt, (tt, (tt, (tt, ((λ _ _. tt), ((λ _ _. tt), ((λ _ _. tt), ((λ _. tt), ((λ _ _ c q is. subst (λ z. names z.bytes ≡ Some 0) (asked_with is) refl), ((λ _ _. has (Memᴰ.head refl)), ((λ _ z is. has (Memᴰ.head refl)), tt))))))))))))

pub covered : Covered
covered = (begun, ran, (setting, agrees, ready))
