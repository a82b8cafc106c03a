-- The fleet goes on to stand where one machine changed.
use Rattle.std.proofs.Common.{◌≡◌, ℕ, ◌<◌, Bool, true, false, cond, T, eqb, ◌⊎◌, List, ◌∷◌, length, get_or, set, Some, None, Option, sym, refl, ap, ◌∙◌, subst, inl, inr, arith, eqb→eq, length-set, get_or-set_other, get_or-set_same}
use mathlib.Core.List.Memᴰ
use lib.Dec.{eqb_refl}
use Rattle.model.specs.Term.{Term, Nonce, Derives, has}
use Rattle.model.specs.World.{World}
use Rattle.model.specs.Effect.{honest}
use Rattle.device.specs.declared.digests.Data.{Data}
use Rattle.device.specs.Things.{same_data}
use Rattle.device.specs.Worlds.{Like}
use Rattle.boot.specs.declared.machines.Machine.{Machine}
use Rattle.boot.specs.Machines.{new_machine}
use Rattle.boot.specs.Worlds as boot
use Rattle.verifier.specs.Searches.{some}
use Rattle.verifier.specs.Seats.{Seat}
use Rattle.verifier.specs.Worlds as verifier
use Rattle.fleet.specs.Sights.{Sight, with_machine, with_disk, with_heard, showing}
use Rattle.fleet.specs.declared.fleets.Shown.{Shown}
use Rattle.boot.specs.declared.disks.Entry.{Entry}
use Rattle.model.proofs.Knowledge.{Safe, derives_more}
use Rattle.device.proofs.Things.{same_data_decides}
use Rattle.fleet.proofs.News.{Any, drawn_news}
use Rattle.fleet.specs.Worlds.{Setting, term_by, term_of, drawn, FleetStands}

-- a machine, or a judge, that did not change stands as it did
pub machine_else : (x : Machine) (w v : World) (j : ℕ) → v.machines j ≡ w.machines j → boot.Stands x w j → boot.Stands x v j
machine_else x w v j e h = record { chip_stands = record { is = h.chip_stands.is; like = subst (λ m. Like x.chip m) (sym e) h.chip_stands.like }; ran_is = h.ran_is ∙ ap (λ m. m.ran) (sym e) }

pub seat_else : (d : List ℕ → ℕ) (s : Seat) (w v : World) (j : ℕ) → v.judges j ≡ w.judges j → verifier.Stands d s w j → verifier.Stands d s v j
seat_else d s w v j e h = record { chips_are = h.chips_are ∙ ap (λ x. x.chips) (sym e); lists_are = h.lists_are ∙ ap (λ x. x.lists) (sym e); questions_are = h.questions_are ∙ ap (λ x. x.questions) (sym e) }

-- at the place that was set, and elsewhere
pub set_each : {A : Type 0} (P : A → ℕ → Type 0) (d : A) (xs : List A) (i : ℕ) (x : A) → i < length xs → P x i → ((j : ℕ) → (j ≡ i → ⊥) → j < length xs → P (get_or xs j d) j) → (j : ℕ) → j < length (set xs i x) → P (get_or (set xs i x) j d) j
set_each P d xs i x below new old j in_range = by (eqb j i) refl
  where
    short : j < length xs
    short = subst (λ n. j < n) (length-set xs i x) in_range

    by : (b : Bool) → eqb j i ≡ b → P (get_or (set xs i x) j d) j
    by true e = let same : j ≡ i = eqb→eq j i (subst (λ b. T b) (sym e) tt) in subst (λ k. P (get_or (set xs i x) k d) k) (sym same) (subst (λ y. P y i) (sym (get_or-set_same xs i x d below)) new)
    by false e = let other : j ≡ i → ⊥ = λ s. absurd (subst (λ b. T b) e (subst (λ k. T (eqb j k)) s (eqb_refl j))) in subst (λ y. P y j) (sym (get_or-set_other xs i j x d other)) (old j other short)

-- what outsiders have is just what is noted
pub record Told (o : Setting) (hs : List Data) (heard : List Term) : Type 0 where
  pub had : (d : Data) (n : ℕ) → o.names d.bytes ≡ Some n → Derives heard (honest n) → some (same_data d) hs ≡ true
  pub noted : (d : Data) (n : ℕ) → o.names d.bytes ≡ Some n → some (same_data d) hs ≡ true → Derives heard (honest n)

pub told : {o : Setting} {s : Sight} {w : World} → FleetStands o s w → Told o s.heard w.heard
told f = record { had = f.had_noted; noted = f.noted_had }

pub moved : (o : Setting) (s : Sight) (i : ℕ) (x : Machine) (w v : World) (hs : List Data) → i < length s.machines → FleetStands o s w → boot.Stands x v i → ((j : ℕ) → (j ≡ i → ⊥) → v.machines j ≡ w.machines j) → v.judges ≡ w.judges → Told o hs v.heard → FleetStands o (with_heard hs (with_machine i x s)) v
moved o s i x w v hs below f stands others judges t =
    record {
      first_is = f.first_is;
      good_is = f.good_is;
      machines_stand = set_each (λ y j. boot.Stands y v j) (new_machine 0) s.machines i x below stands (λ j other short. machine_else _ w v j (others j other) (f.machines_stand j short));
      seats_stand = λ j short. seat_else (drawn o) _ w v j (ap (λ g. g j) judges) (f.seats_stand j short);
      seats_first = f.seats_first;
      had_noted = t.had;
      noted_had = t.noted;
    }

-- the disk and the signatures that were remembered are no matter of the world
pub on_disk : {o : Setting} {s : Sight} {w : World} (es : List Entry) → FleetStands o s w → FleetStands o (with_disk es s) w
on_disk es f = record { first_is = f.first_is; good_is = f.good_is; machines_stand = f.machines_stand; seats_stand = f.seats_stand; seats_first = f.seats_first; had_noted = f.had_noted; noted_had = f.noted_had }

pub on_shown : {o : Setting} {s : Sight} {w : World} (x : Shown) → FleetStands o s w → FleetStands o (showing x s) w
on_shown x f = record { first_is = f.first_is; good_is = f.good_is; machines_stand = f.machines_stand; seats_stand = f.seats_stand; seats_first = f.seats_first; had_noted = f.had_noted; noted_had = f.noted_had }

-- ---- what is said

some_cons : {A : Type 0} (p : A → Bool) (x : A) (xs : List A) → some p (x ∷ xs) ≡ cond (p x) true (some p xs)
unfolding some
some_cons p x xs = refl

some_here : {A : Type 0} (p : A → Bool) (x : A) (xs : List A) → p x ≡ true → some p (x ∷ xs) ≡ true
some_here p x xs e = some_cons p x xs ∙ ap (λ b. cond b true (some p xs)) e

some_there : {A : Type 0} (p : A → Bool) (x : A) (xs : List A) → some p xs ≡ true → some p (x ∷ xs) ≡ true
some_there p x xs e = some_cons p x xs ∙ either (p x)
  where
    either : (b : Bool) → cond b true (some p xs) ≡ true
    either true = refl
    either false = e

some_cases : {A : Type 0} (p : A → Bool) (x : A) (xs : List A) → some p (x ∷ xs) ≡ true → (p x ≡ true) ⊎ (some p xs ≡ true)
some_cases p x xs e = either (p x) refl (sym (some_cons p x xs) ∙ e)
  where
    either : (b : Bool) → p x ≡ b → cond b true (some p xs) ≡ true → (p x ≡ true) ⊎ (some p xs ≡ true)
    either true is h = inl is
    either false is h = inr h

-- something is said that is no news
pub told_more : (o : Setting) (hs : List Data) (heard : List Term) (t : Term) → Told o hs heard → Safe (λ k. (n : ℕ) → Nonce k ≡ honest n → (d : Data) → o.names d.bytes ≡ Some n → some (same_data d) hs ≡ true) Any t → Told o hs (t ∷ heard)
told_more o hs heard t old safe =
    record { had = λ d n e g. drawn_news (λ n. (d : Data) → o.names d.bytes ≡ Some n → some (same_data d) hs ≡ true) heard t (λ n h d e. old.had d n e h) safe n g d e; noted = λ d n e g. derives_more (λ u m. Memᴰ.tail m) (old.noted d n e g) }

-- drawn bytes are said, and noted
pub told_heard : (o : Setting) (hs : List Data) (heard : List Term) (d : Data) → Told o hs heard → Told o (d ∷ hs) (term_of o d ∷ heard)
told_heard o hs heard d old = record { had = λ c n e g. drawn_news Noted heard (term_of o d) (λ n h c e. some_there (same_data c) d hs (old.had c n e h)) (safe (o.names d.bytes) refl) n g c e; noted = λ c n e g. again c n e (some_cases (same_data c) d hs g) }
  where
    Noted : ℕ → Type 0
    Noted n = (c : Data) → o.names c.bytes ≡ Some n → some (same_data c) (d ∷ hs) ≡ true

    safe : (m : Option ℕ) → o.names d.bytes ≡ m → Safe (λ k. (n : ℕ) → Nonce k ≡ honest n → Noted n) Any (term_by m)
    safe None e = tt
    safe (Some k) e = λ n is c f.
        let same : k ≡ n = grind arith in
        let bytes : c.bytes ≡ d.bytes = o.apart c.bytes d.bytes n f (e ∙ ap Some same) in
        some_here (same_data c) d hs ((same_data_decides c d).1 (λ i. record { bytes = bytes i }))

    again : (c : Data) (n : ℕ) → o.names c.bytes ≡ Some n → (same_data c d ≡ true) ⊎ (some (same_data c) hs ≡ true) → Derives (term_of o d ∷ heard) (honest n)
    again c n e (inl is) = has (Memᴰ.head (sym (ap term_by (ap (λ x. o.names x.bytes) (sym ((same_data_decides c d).0 is)) ∙ e))))
    again c n e (inr g) = derives_more (λ u m. Memᴰ.tail m) (old.noted c n e g)
