-- Every event, and every run of events.
use Rattle.std.proofs.Common.{◌≡◌, ℕ, ◌+◌, ◌<◌, Bool, true, false, cond, T, ltb, List, [], ◌∷◌, length, Option, Ok, Err, Result, sym, refl, ap, ◌∙◌, subst, true≢false, arith, ltb→lt}
use mathlib.Core.List.Memᴰ
use Rattle.model.specs.World.{World}
use Rattle.model.specs.Effect as effect
use Rattle.model.specs.Effect.{made, on_judge}
use Rattle.model.specs.Run.{Run, here}
use Rattle.model.proofs.Main.{main}
use Rattle.model.proofs.Moments.{join}
use Rattle.device.specs.declared.digests.Digest.{Digest}
use Rattle.device.specs.declared.registers.Register.{Register}
use Rattle.verifier.specs.declared.judges.Reply.{Reply}
use Rattle.verifier.specs.declared.judges.Fault.{Fault as JudgeFault}
use Rattle.verifier.specs.declared.judges.Said.{Said}
use Rattle.verifier.specs.declared.judges.Word.{Word}
use Rattle.verifier.specs.declared.judges.Word.TheVariants as word
use Rattle.verifier.specs.Searches.{some}
use Rattle.verifier.specs.Worlds as verifier
use Rattle.boot.specs.Worlds as boot
use Rattle.device.specs.Things.{same_data}
use Rattle.model.specs.Term.{Nonce, Derives}
use Rattle.model.proofs.Knowledge.{derives_safe}
use Rattle.fleet.specs.declared.fleets.Event.{Event}
use Rattle.fleet.specs.declared.fleets.Event.TheVariants.{At, Office, Net, Fall, Write, Wipe}
use Rattle.fleet.specs.Sights.{Sight, found, machine_at, seat_at, with_seat, acted, judged, played}
use Rattle.fleet.specs.declared.fleets.Fault.{Fault}
use Rattle.fleet.specs.declared.fleets.Fault.TheVariants.{Nobody, NoMemory}
use Rattle.fleet.specs.declared.fleets.Report.{Report}
use Rattle.fleet.specs.declared.fleets.Report.TheVariants.{Done}
use Rattle.fleet.specs.Worlds.{Setting, drawn, FleetStands, ActAllowed, WordAllowed, after_word, after_net, Goes}
use Rattle.verifier.specs.Seats.{Seat, new_seat, answer_of, office_of, net_of}
use Rattle.fleet.specs.Runs.{Allowed, after_at, after, Plays, Happening, next, Ran, Ready, final, OfAccepted, OfWord, OfEvent, Claim, Claims, Agrees, PlaySteps, Tells, FleetPromise}
use Rattle.fleet.specs.Makes.{Begins}
use Rattle.fleet.proofs.Acts.{machine_events}
use Rattle.fleet.proofs.Words.{office_words, net_words, judge_falls, answer_true}
use Rattle.fleet.proofs.Standing.{on_disk}

pub in_range : (i n : ℕ) → ltb i n ≡ true → i < n
in_range i n e = ltb→lt i n (subst (λ b. T b) (sym e) tt)

still : (o : Setting) (s : Sight) (w : World) → FleetStands o s w → Goes o s w w
still o s w f = record { steps = 0; run = here; stands = f }

pub plays : Plays
plays o m s (At i a) ds w h f = by (ltb i (length s.machines)) refl h
  where
    by : (b : Bool) → ltb i (length s.machines) ≡ b → (h : b ≡ true → ActAllowed o m i (machine_at s i) a w) → Goes o (cond b (acted m i s (machine_at s i) a) (s, Err Nobody)).0 w (after_at o m i s a w b h)
    by true e g = machine_events o m s i a w (g refl) (in_range i _ e) f
    by false e g = still o s w f
plays o m s (Office j x q) ds w h f = by (ltb j (length s.seats)) refl m h
  where
    by : (b : Bool) → ltb j (length s.seats) ≡ b → (m : Bool) → (b ≡ true → m ≡ true → WordAllowed o x (office_of true (seat_at s j) x ds q).1 w) → Goes o (cond b (cond m (judged j s x (office_of true (seat_at s j) x ds q)) (s, Err NoMemory)) (s, Err Nobody)).0 w (cond b (cond m (after_word o j (seat_at s j) x ds (office_of true (seat_at s j) x ds q) w) w) w)
    by true e true g = office_words o s j x ds q w (in_range j _ e) f (g refl refl)
    by true e false g = still o s w f
    by false e n g = still o s w f
plays o m s (Net j x) ds w h f = by (ltb j (length s.seats)) refl h
  where
    by : (b : Bool) → ltb j (length s.seats) ≡ b → (b ≡ true → WordAllowed o x (net_of (seat_at s j) x).1 w) → Goes o (cond b (judged j s x (net_of (seat_at s j) x)) (s, Err Nobody)).0 w (cond b (after_net o j (seat_at s j) x (net_of (seat_at s j) x) w) w)
    by true e g = net_words o s j x w (in_range j _ e) f (g refl)
    by false e g = still o s w f
plays o m s (Fall j) ds w h f = by (ltb j (length s.seats)) refl
  where
    by : (b : Bool) → ltb j (length s.seats) ≡ b → Goes o (cond {A = Sight × Result Report Fault} b (with_seat j (new_seat (seat_at s j).first) s, Ok Done) (s, Err Nobody)).0 w (cond b (on_judge j (λ _. effect.new_judge) w) w)
    by true e = judge_falls o s j w (in_range j _ e) f
    by false e = still o s w f
plays o true s (Write n g k) ds w h f = still o _ w (on_disk _ f)
plays o false s (Write n g k) ds w h f = still o s w f
plays o m s Wipe ds w h f = still o _ w (on_disk [] f)

-- ---- what was reported is true

-- where nothing was done, nothing is claimed
none_claimed : (x : Word) (f : Fault) (P : Reply → Register → Option Register → Type 0) → OfWord x (Err f) P
none_claimed (word.Ask a) f P = tt
none_claimed (word.List n) f P = tt
none_claimed word.Good f P = tt
none_claimed (word.Chip a) f P = tt
none_claimed (word.Ticks n) f P = tt
none_claimed (word.Answer p) f P = tt

-- what holds of every answer that a judge accepts holds of every acceptance that is reported
pub claimed : (o : Setting) (m : Bool) (s : Sight) (e : Event) (ds : List Digest) (w : World) (P : ℕ → Reply → Register → Option Register → Type 0) → ((j : ℕ) → j < length s.seats → (p : Reply) (r : Seat × Result Said JudgeFault) → r ≡ answer_of (seat_at s j) p → WordAllowed o (word.Answer p) r.1 w → OfAccepted (judged j s (word.Answer p) r).1 (P j p)) → Allowed o m s e ds w → OfEvent e (played m s e ds).1 P
claimed o m s (At i a) ds w P answers h = tt
claimed o m s (Office j x q) ds w P answers h = by (ltb j (length s.seats)) refl m h
  where
    word_true : (x : Word) → j < length s.seats → WordAllowed o x (office_of true (seat_at s j) x ds q).1 w → OfWord x (judged j s x (office_of true (seat_at s j) x ds q)).1 (P j)
    word_true (word.Ask a) below g = tt
    word_true (word.List n) below g = tt
    word_true word.Good below g = tt
    word_true (word.Chip a) below g = tt
    word_true (word.Ticks n) below g = tt
    word_true (word.Answer p) below g = answers j below p _ refl g

    by : (b : Bool) → ltb j (length s.seats) ≡ b → (m : Bool) → (b ≡ true → m ≡ true → WordAllowed o x (office_of true (seat_at s j) x ds q).1 w) → OfWord x (cond b (cond m (judged j s x (office_of true (seat_at s j) x ds q)) (s, Err NoMemory)) (s, Err Nobody)).1 (P j)
    by true e true g = word_true x (in_range j _ e) (g refl refl)
    by true e false g = none_claimed x NoMemory (P j)
    by false e n g = none_claimed x Nobody (P j)
claimed o m s (Net j x) ds w P answers h = by (ltb j (length s.seats)) refl h
  where
    word_true : (x : Word) → j < length s.seats → WordAllowed o x (net_of (seat_at s j) x).1 w → OfWord x (judged j s x (net_of (seat_at s j) x)).1 (P j)
    word_true (word.Ask a) below g = tt
    word_true (word.List n) below g = tt
    word_true word.Good below g = tt
    word_true (word.Chip a) below g = tt
    word_true (word.Ticks n) below g = tt
    word_true (word.Answer p) below g = answers j below p _ refl g

    by : (b : Bool) → ltb j (length s.seats) ≡ b → (b ≡ true → WordAllowed o x (net_of (seat_at s j) x).1 w) → OfWord x (cond b (judged j s x (net_of (seat_at s j) x)) (s, Err Nobody)).1 (P j)
    by true e g = word_true x (in_range j _ e) (g refl)
    by false e g = none_claimed x Nobody (P j)
claimed o m s (Fall j) ds w P answers h = tt
claimed o m s (Write n g k) ds w P answers h = tt
claimed o m s Wipe ds w P answers h = tt

judged_claimed : (o : Setting) (m : Bool) (s : Sight) (e : Event) (ds : List Digest) (w : World) → Allowed o m s e ds w → FleetStands o s w → {k : ℕ} (l : Run o.programs k made w) → Claim o e (played m s e ds).1 l
judged_claimed o m s e ds w h f l = claimed o m s e ds w _ (λ j below p r is g. answer_true o s j w below f p r is g l) h

-- ---- over any sequence of events

record Held (o : Setting) (s : Sight) (ps : List Happening) (t : Sight) (w : World) (h : Ready o s ps w) : Type 0 where
  steps : ℕ
  run : Run o.programs steps w (final o s ps w h)
  stands : FleetStands o t (final o s ps w h)
  claims : Claims o s ps w h

held : (o : Setting) (s t : Sight) (ps : List Happening) (w : World) → FleetStands o s w → Ran s ps t → (h : Ready o s ps w) → Held o s ps t w h
held o s t [] w f r h = record { steps = 0; run = here; stands = subst (λ z. FleetStands o z w) r f; claims = tt }
held o s t (p ∷ ps) w f (r, rs) h = more (plays o (found p.report) s p.event p.digests w h.0 f) (λ g. held o (next s p) t ps _ g.stands rs h.1)
  where
    more : (g : Goes o (next s p) w (after o (found p.report) s p.event p.digests w h.0)) → ((g : Goes o (next s p) w (after o (found p.report) s p.event p.digests w h.0)) → Held o (next s p) ps t (after o (found p.report) s p.event p.digests w h.0) h.1) → Held o s (p ∷ ps) t w h
    more g rest =
        let k = rest g in
        record { steps = g.steps + k.steps; run = join g.run k.run; stands = k.stands; claims = ((λ n l. subst (λ z. Claim o p.event z l) (sym r) (judged_claimed o (found p.report) s p.event p.digests w h.0 f l)), k.claims) }

-- where nothing was said, no drawn number is had
nothing_derived : (k : ℕ) → Derives [] (effect.honest k) → ⊥
nothing_derived k d = derives_safe (λ m. (n : ℕ) → Nonce m ≡ effect.honest n → ⊥) (λ _ _. Unit {0}) (λ n i e. absurd (grind arith)) (λ u m. absurd (Memᴰ.not-nil m)) d k refl

some_none : {A : Type 0} (p : A → Bool) → some p [] ≡ false
unfolding some
some_none p = refl

-- a new fleet stands for the world as it is made
pub new_stands : (o : Setting) (first : Digest) (bad : List Digest) (m j : ℕ) (s : Sight) → Begins first bad m j s → Agrees o s → FleetStands o s made
new_stands o start bad m j s n (first, good) =
    record {
      first_is = first;
      good_is = good;
      machines_stand = λ i short. subst (λ x. boot.Stands x made i) (sym (n.machines_are.each i _ (omega (arith, n.machines_are.long)))) (record { chip_stands = record { is = refl; like = record { register_is = refl; counter_is = refl; number_is = refl } }; ran_is = refl });
      seats_stand = λ j short. subst (λ d. verifier.Stands (drawn o) d made j) (sym (n.seats_are.each j _ (omega (arith, n.seats_are.long)))) (record { chips_are = refl; lists_are = refl; questions_are = refl });
      seats_first = λ j short. ap (λ d. d.first) (n.seats_are.each j _ (omega (arith, n.seats_are.long))) ∙ sym n.first_is;
      had_noted = λ d k e h. absurd (nothing_derived k h);
      noted_had = λ d k e g. absurd (true≢false (sym g ∙ ap (some (same_data d)) n.heard_is ∙ some_none (same_data d)));
    }

pub fleet_promise : FleetPromise
fleet_promise o first bad m j s t ps n a r h =
    let k = held o s t ps made (new_stands o first bad m j s n a) r h in
    record { steps = k.steps; run = k.run; whole = main o.programs _ _ k.run; stands = k.stands; claims = k.claims }

-- ---- one call

pub play_steps : (s : Sight) (e : Event) (ds : List Digest) (q : Sight × Result Report Fault) → q ≡ played (found q.1) s e ds → PlaySteps s e ds q
play_steps s e ds q is o w h f = subst (λ t. Goes o t.0 w (after o (found q.1) s e ds w h)) (sym is) (plays o (found q.1) s e ds w h f)

pub tells : (s : Sight) (e : Event) (ds : List Digest) (q : Sight × Result Report Fault) → q ≡ played (found q.1) s e ds → Tells s e ds q
tells s e ds q is o w h f k l = subst (λ t. Claim o e t.1 l) (sym is) (judged_claimed o (found q.1) s e ds w h f l)
