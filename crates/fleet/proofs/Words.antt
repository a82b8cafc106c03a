-- Each word to a judge is matched by steps of the world.
use Rattle.std.proofs.Common.{◌≡◌, ℕ, ◌<◌, Bool, true, false, cond, eqb, ltb, List, [], ◌∷◌, length, is_some, Some, None, Option, Ok, Err, Result, sym, refl, ap, ◌∙◌, subst, inl, inr, arith}
use Rattle.model.specs.World as world
use Rattle.model.specs.World.{Programs, World}
use Rattle.model.specs.Effect as effect
use Rattle.model.specs.Effect.{made, on_judge, honest}
use Rattle.model.specs.Promise.{OneMore, Judged}
use Rattle.model.proofs.Main.{main}
use Rattle.fleet.specs.Runs.{OfAccepted}
use Rattle.verifier.specs.Worlds.{question_of}
use Rattle.model.specs.Step as step
use Rattle.model.specs.Run.{Run, here, onward}
use Rattle.model.proofs.Places.{at_other}
use Rattle.device.specs.declared.digests.Data.{Data}
use Rattle.device.specs.declared.digests.Digest.{Digest}
use Rattle.device.specs.declared.registers.Register.{Register}
use Rattle.device.specs.Rows.{words}
use Rattle.verifier.specs.declared.judges.Reply.{Reply}
use Rattle.verifier.specs.declared.judges.Fault.{Fault}
use Rattle.verifier.specs.declared.judges.Fault.TheVariants.{Refused, NoMemory}
use Rattle.verifier.specs.declared.judges.Said.{Said}
use Rattle.verifier.specs.declared.judges.Said.TheVariants as said
use Rattle.verifier.specs.declared.judges.Word.{Word}
use Rattle.verifier.specs.declared.judges.Word.TheVariants as word
use Rattle.verifier.specs.declared.judges.List as list
use Rattle.verifier.specs.Rows.{gathered}
use Rattle.verifier.specs.Searches.{some, seek, has_number}
use Rattle.verifier.specs.Seats.{Seat, new_seat, new_question, begins, signs, list_by, ask_by, answer_by, answer_at, answer_of, office_of, net_of}
use Rattle.verifier.specs.Worlds as verifier
use Rattle.verifier.proofs.Worlds as judges
use Rattle.verifier.proofs.Refusals as idle
use Rattle.fleet.specs.Sights.{Sight, with_seat, with_heard, seat_at, judged}
use Rattle.fleet.specs.Worlds.{Setting, term_by, nonce_by, drawn, FleetStands, Goes, WordAllowed, after_word, after_net, OfficeWords, NetWords, JudgeFalls}
use Rattle.fleet.proofs.Standing.{Told, told, told_heard, set_each, machine_else, seat_else}

-- ---- what a word can be answered with; the first program stays

-- a plain answer: nothing is asked or accepted
abbrev Plain : Result Said Fault → Type 0
Plain (Ok said.Done) = Unit {0}
Plain (Ok (said.Asks a q)) = ⊥
Plain (Ok (said.Accepted x)) = ⊥
Plain (Err f) = Unit {0}

abbrev Asks : Result Said Fault → Type 0
Asks (Ok said.Done) = ⊥
Asks (Ok (said.Asks a q)) = Unit {0}
Asks (Ok (said.Accepted x)) = ⊥
Asks (Err f) = Unit {0}

abbrev Accepts : Result Said Fault → Type 0
Accepts (Ok said.Done) = ⊥
Accepts (Ok (said.Asks a q)) = ⊥
Accepts (Ok (said.Accepted x)) = Unit {0}
Accepts (Err f) = Unit {0}

-- the judge keeps its first program, and what it says is of this kind
abbrev Kind : (Result Said Fault → Type 0) → Seat → Seat × Result Said Fault → Type 0
Kind S d r = (r.0.first ≡ d.first) × S r.1

kind_cond : (S : Result Said Fault → Type 0) (d : Seat) (b : Bool) (p q : Seat × Result Said Fault) → Kind S d p → Kind S d q → Kind S d (cond b p q)
kind_cond S d true p q f g = f
kind_cond S d false p q f g = g

list_kind : (d : Seat) (n : ℕ) (o : Option Register) → Kind Plain d (list_by true d n o)
list_kind d n None = (refl, tt)
list_kind d n (Some r) = (refl, tt)

ask_kind : (d : Seat) (a : ℕ) (o : Option Data) → Kind Asks d (ask_by true d a o)
ask_kind d a None = (refl, tt)
ask_kind d a (Some q) = (refl, tt)

answer_kind_by : (d : Seat) (p : Reply) (k : ℕ) (o : Option list.List) → Kind Accepts d (answer_by d p k o)
answer_kind_by d p k None = (refl, tt)
answer_kind_by d p k (Some l) = kind_cond Accepts d (signs p l.row) _ _ (refl, tt) (refl, tt)

answer_kind_at : (d : Seat) (p : Reply) (o : Option ℕ) → Kind Accepts d (answer_at d p o)
answer_kind_at d p None = (refl, tt)
answer_kind_at d p (Some k) = answer_kind_by d p k (seek (has_number p.list) d.lists)

answer_kind : (d : Seat) (p : Reply) → Kind Accepts d (answer_of d p)
answer_kind d p = kind_cond Accepts d (some (eqb p.chip) d.chips) _ _ (answer_kind_at d p _) (refl, tt)

chip_kind : (d : Seat) (a : ℕ) (ds : List Digest) (q : Option Data) → Kind Plain d (office_of true d (word.Chip a) ds q)
chip_kind d a ds q = kind_cond Plain d (ltb (length d.chips) 64) _ _ (kind_cond Plain d (some (eqb a) d.chips) _ _ (refl, tt) (refl, tt)) (refl, tt)

lists_kind : (d : Seat) (n : ℕ) (ds : List Digest) (q : Option Data) → Kind Plain d (office_of true d (word.List n) ds q)
lists_kind d n ds q = kind_cond Plain d (begins d.first ds) _ _ (kind_cond Plain d (ltb (length d.lists) 256) _ _ (kind_cond Plain d (is_some (seek (has_number n) d.lists)) _ _ (refl, tt) (list_kind d n (gathered ds))) (refl, tt)) (refl, tt)

good_kind : (d : Seat) (ds : List Digest) (q : Option Data) → Kind Plain d (office_of true d word.Good ds q)
good_kind d ds q = kind_cond Plain d (ltb 1024 (length ds)) _ _ (refl, tt) (kind_cond Plain d (is_some d.good) _ _ (refl, tt) (refl, tt))

asks_kind : (d : Seat) (a : ℕ) (ds : List Digest) (q : Option Data) → Kind Asks d (office_of true d (word.Ask a) ds q)
asks_kind d a ds q = kind_cond Asks d (some (eqb a) d.chips) _ _ (ask_kind d a q) (refl, tt)

-- ---- the fleet goes on to stand where one judge changed

module _ (o : Setting) (s : Sight) (j : ℕ) (w : World) (below : j < length s.seats) (f : FleetStands o s w) where
  abbrev d : Seat
  d = seat_at s j

  st : verifier.Stands (drawn o) d w j
  st = f.seats_stand j below

  seated : (e : Seat) (v : World) (hs : List Data) → verifier.Stands (drawn o) e v j → e.first ≡ d.first → v.machines ≡ w.machines → ((k : ℕ) → (k ≡ j → ⊥) → v.judges k ≡ w.judges k) → Told o hs v.heard → FleetStands o (with_heard hs (with_seat j e s)) v
  seated e v hs h first machines others t =
      record {
        first_is = f.first_is;
        good_is = f.good_is;
        machines_stand = λ i short. machine_else _ w v i (ap (λ g. g i) machines) (f.machines_stand i short);
        seats_stand = set_each (λ y k. verifier.Stands (drawn o) y v k) (new_seat s.first) s.seats j e below h (λ k other short. seat_else (drawn o) _ w v k (others k other) (f.seats_stand k short));
        seats_first = set_each (λ y k. y.first ≡ s.first) (new_seat s.first) s.seats j e below (first ∙ f.seats_first j below) (λ k other short. f.seats_first k short);
        had_noted = t.had;
        noted_had = t.noted;
      }

  -- nothing changed
  same : (e : Seat) → e ≡ d → Goes o (with_seat j e s) w w
  same e is = record { steps = 0; run = here; stands = seated e w s.heard (subst (λ x. verifier.Stands (drawn o) x w j) (sym is) st) (ap (λ x. x.first) is) refl (λ k _. refl) (told f) }

  -- one step at the judge, and nothing is said
  one_step : (e : Seat) (g : world.Judge → world.Judge) → step.Step o.programs w (on_judge j g w) × verifier.Stands (drawn o) e (on_judge j g w) j → e.first ≡ d.first → Goes o (with_seat j e s) w (on_judge j g w)
  one_step e g (t, h) first = record { steps = 1; run = onward here t; stands = seated e _ s.heard h first refl (λ k other. at_other j _ w.judges k other) (told f) }

  falls : Goes o (with_seat j (new_seat d.first) s) w (on_judge j (λ _. effect.new_judge) w)
  falls = one_step (new_seat d.first) (λ _. effect.new_judge) ((judges.falls d _ refl).falls o.programs (drawn o) w j st) refl

  -- what the judge kept, and what it said
  kind : (S : Result Said Fault → Type 0) {r q : Seat × Result Said Fault} → r ≡ q → Kind S d q → Kind S d r
  kind S is k = subst (λ p. Kind S d p) (sym is) k

  chip_goes : (a : ℕ) (ds : List Digest) (q : Option Data) (r : Seat × Result Said Fault) → r ≡ office_of true d (word.Chip a) ds q → Goes o (judged j s (word.Chip a) r).0 w (after_word o j d (word.Chip a) ds r w)
  chip_goes a ds q (e, Ok said.Done) is = one_step e (effect.with_chip a) ((judges.office_steps true d (word.Chip a) ds q _ is).takes o.programs (drawn o) w j st refl) (kind Plain is (chip_kind d a ds q)).0
  chip_goes a ds q (e, Ok (said.Asks b c)) is = absurd (kind Plain is (chip_kind d a ds q)).1
  chip_goes a ds q (e, Ok (said.Accepted z)) is = absurd (kind Plain is (chip_kind d a ds q)).1
  chip_goes a ds q (e, Err (Refused k)) is = same e ((idle.office_idle true d (word.Chip a) ds q _ is).0 k refl)
  chip_goes a ds q (e, Err NoMemory) is = same e ((idle.office_idle true d (word.Chip a) ds q _ is).1 refl)

  list_goes : (n : ℕ) (ds : List Digest) (q : Option Data) (r : Seat × Result Said Fault) → r ≡ office_of true d (word.List n) ds q → Goes o (judged j s (word.List n) r).0 w (after_word o j d (word.List n) ds r w)
  list_goes n ds q (e, Ok said.Done) is = one_step e (effect.with_list (verifier.latest ds)) ((judges.office_steps true d (word.List n) ds q _ is).takes o.programs (drawn o) w j (f.first_is ∙ ap (λ x. x.bytes) (sym (f.seats_first j below))) st refl) (kind Plain is (lists_kind d n ds q)).0
  list_goes n ds q (e, Ok (said.Asks b c)) is = absurd (kind Plain is (lists_kind d n ds q)).1
  list_goes n ds q (e, Ok (said.Accepted z)) is = absurd (kind Plain is (lists_kind d n ds q)).1
  list_goes n ds q (e, Err (Refused k)) is = same e ((idle.office_idle true d (word.List n) ds q _ is).0 k refl)
  list_goes n ds q (e, Err NoMemory) is = same e ((idle.office_idle true d (word.List n) ds q _ is).1 refl)

  good_goes : (ds : List Digest) (q : Option Data) (r : Seat × Result Said Fault) → r ≡ office_of true d word.Good ds q → Goes o (judged j s word.Good r).0 w (after_word o j d word.Good ds r w)
  good_goes ds q (e, Ok said.Done) is = record { steps = 0; run = here; stands = seated e w s.heard ((judges.office_steps true d word.Good ds q _ is).stays (drawn o) w j st) (kind Plain is (good_kind d ds q)).0 refl (λ k _. refl) (told f) }
  good_goes ds q (e, Ok (said.Asks b c)) is = absurd (kind Plain is (good_kind d ds q)).1
  good_goes ds q (e, Ok (said.Accepted z)) is = absurd (kind Plain is (good_kind d ds q)).1
  good_goes ds q (e, Err (Refused k)) is = same e ((idle.office_idle true d word.Good ds q _ is).0 k refl)
  good_goes ds q (e, Err NoMemory) is = same e ((idle.office_idle true d word.Good ds q _ is).1 refl)

  ticks_goes : (n : ℕ) (ds : List Digest) (q : Option Data) → Goes o (judged j s (word.Ticks n) (office_of true d (word.Ticks n) ds q)).0 w (after_word o j d (word.Ticks n) ds (office_of true d (word.Ticks n) ds q) w)
  ticks_goes n ds q =
      let (r, h) = (judges.ages d n).puts_out o.programs (drawn o) w j st in
      record { steps = _; run = r; stands = seated _ _ s.heard h refl refl (λ k other. at_other j _ w.judges k other) (told f) }

  ask_goes : (a : ℕ) (ds : List Digest) (q : Option Data) (r : Seat × Result Said Fault) → r ≡ office_of true d (word.Ask a) ds q → WordAllowed o (word.Ask a) r.1 w → Goes o (judged j s (word.Ask a) r).0 w (after_word o j d (word.Ask a) ds r w)
  ask_goes a ds q (e, Ok said.Done) is h = absurd (kind Asks is (asks_kind d a ds q)).1
  ask_goes a ds q (e, Ok (said.Asks b c)) is h =
      let new : o.names c.bytes ≡ Some w.next = h b c refl in
      let (r, t) = (judges.office_steps true d (word.Ask a) ds q _ is).asks o.programs (drawn o) w j b c st refl (ap nonce_by new) in
      record { steps = _; run = r; stands = seated e _ (c ∷ s.heard) t (kind Asks is (asks_kind d a ds q)).0 refl (λ k other. at_other j _ (effect.asking (effect.question j a w) w).judges k other ∙ at_other j _ w.judges k other) (subst (λ u. Told o (c ∷ s.heard) (u ∷ w.heard)) (ap term_by new) (told_heard o s.heard w.heard c (told f))) }
  ask_goes a ds q (e, Ok (said.Accepted z)) is h = absurd (kind Asks is (asks_kind d a ds q)).1
  ask_goes a ds q (e, Err (Refused k)) is h = same e ((idle.office_idle true d (word.Ask a) ds q _ is).0 k refl)
  ask_goes a ds q (e, Err NoMemory) is h = same e ((idle.office_idle true d (word.Ask a) ds q _ is).1 refl)

  answer_goes : (p : Reply) (r : Seat × Result Said Fault) → r ≡ answer_of d p → WordAllowed o (word.Answer p) r.1 w → Goes o (judged j s (word.Answer p) r).0 w (after_word o j d (word.Answer p) [] r w)
  answer_goes p (e, Ok said.Done) is h = absurd (kind Accepts is (answer_kind d p)).1
  answer_goes p (e, Ok (said.Asks b c)) is h = absurd (kind Accepts is (answer_kind d p)).1
  answer_goes p (e, Ok (said.Accepted z)) is h =
      let (t, v) = (judges.net_steps d (word.Answer p) _ is).accepts o.programs (drawn o) w j z st refl (h z refl) in
      record { steps = 1; run = onward here t; stands = seated e _ s.heard v (kind Accepts is (answer_kind d p)).0 refl (λ k other. at_other j _ w.judges k other) (told f) }
  answer_goes p (e, Err (Refused k)) is h = same e ((idle.net_idle d (word.Answer p) _ is).0 k refl)
  answer_goes p (e, Err NoMemory) is h = same e ((idle.net_idle d (word.Answer p) _ is).1 refl)

  office_goes : (x : Word) (ds : List Digest) (q : Option Data) → WordAllowed o x (office_of true d x ds q).1 w → Goes o (judged j s x (office_of true d x ds q)).0 w (after_word o j d x ds (office_of true d x ds q) w)
  office_goes (word.Ask a) ds q h = ask_goes a ds q _ refl h
  office_goes (word.List n) ds q h = list_goes n ds q _ refl
  office_goes word.Good ds q h = good_goes ds q _ refl
  office_goes (word.Chip a) ds q h = chip_goes a ds q _ refl
  office_goes (word.Ticks n) ds q h = ticks_goes n ds q
  office_goes (word.Answer p) ds q h = answer_goes p _ refl h

  net_goes : (x : Word) → WordAllowed o x (net_of d x).1 w → Goes o (judged j s x (net_of d x)).0 w (after_net o j d x (net_of d x) w)
  net_goes (word.Ask a) h = same d refl
  net_goes (word.List n) h = same d refl
  net_goes word.Good h = same d refl
  net_goes (word.Chip a) h = same d refl
  net_goes (word.Ticks n) h = same d refl
  net_goes (word.Answer p) h = answer_goes p _ refl h

-- ---- an acceptance is true

longer : {A : Type 0} (x : A) (xs : List A) → x ∷ xs ≡ xs → ⊥
longer x xs e = let long : length (x ∷ xs) ≡ length xs = ap length e in absurd (omega arith)

-- a step that adds this acceptance adds one that is judged
added : {pr : Programs} {k : ℕ} {w : World} (l : Run pr k made w) (c : world.Acceptance) {new : List world.Acceptance} → OneMore (Judged pr l) w.accepted new → new ≡ c ∷ w.accepted → Judged pr l c
added {w = w} l c (inl e) is = absurd (longer c w.accepted (sym is ∙ e))
added {pr} l c (inr (z, e, j)) is = let same : z ≡ c = cc in subst (λ y. Judged pr l y) same j

pub answer_true : (o : Setting) (s : Sight) (j : ℕ) (w : World) → j < length s.seats → FleetStands o s w → (p : Reply) (r : Seat × Result Said Fault) → r ≡ answer_of (seat_at s j) p → WordAllowed o (word.Answer p) r.1 w → {k : ℕ} (l : Run o.programs k made w) → OfAccepted (judged j s (word.Answer p) r).1 (λ row _. Judged o.programs l (effect.acceptance (question_of (drawn o) j (new_question p.chip p.«data»)) (words row)))
answer_true o s j w below f p (e, Ok said.Done) is h l = tt
answer_true o s j w below f p (e, Ok (said.Asks b c)) is h l = tt
answer_true o s j w below f p (e, Ok (said.Accepted z)) is h {k} l =
    let (t, _) = (judges.net_steps (seat_at s j) (word.Answer p) _ is).accepts o.programs (drawn o) w j z (f.seats_stand j below) refl (h z refl) in
    added l _ ((main o.programs k w l).acceptances.judged _ t) refl
answer_true o s j w below f p (e, Err (Refused k)) is h l = tt
answer_true o s j w below f p (e, Err NoMemory) is h l = tt

pub office_words : OfficeWords
office_words o s j x ds draw w below f h = office_goes o s j w below f x ds draw h

pub net_words : NetWords
net_words o s j x w below f h = net_goes o s j w below f x h

pub judge_falls : JudgeFalls
judge_falls o s j w below f = falls o s j w below f
