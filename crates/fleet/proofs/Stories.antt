-- What really ran.
use Rattle.std.proofs.Common.{◌≡◌, ℕ, ◌<◌, Bool, true, false, cond, ◌&&◌, T, eqb, ltb, ◌⊎◌, List, [], ◌∷◌, map, reverse, length, Some, None, Option, Ok, Err, Result, sym, refl, ap, ◌∙◌, subst, inl, inr, true≢false, arith, ltb→lt}
use mathlib.Core.List.Memᴰ
use mathlib.Core.List.{Memᴰ}
use Rattle.model.specs.Term.{Derives}
use Rattle.model.specs.World.{World}
use Rattle.model.specs.Effect.{made}
use Rattle.model.specs.Run.{Run, here, onward, Moment}
use Rattle.model.proofs.Moments.{now, then}
use Rattle.device.specs.declared.chips.Command.TheVariants as command
use Rattle.device.specs.declared.digests.Data.{Data}
use Rattle.device.specs.declared.digests.Digest.{Digest}
use Rattle.device.specs.declared.registers.Register.{Register}
use Rattle.device.specs.Commands as chip
use Rattle.device.specs.Rows.{row, words, pushed}
use Rattle.boot.specs.declared.machines.Machine.{Machine}
use Rattle.verifier.specs.declared.judges.Acceptance.{Acceptance}
use Rattle.verifier.specs.declared.judges.Fault.{Fault as JudgeFault}
use Rattle.verifier.specs.declared.judges.Said.{Said}
use Rattle.verifier.specs.declared.judges.Said.TheVariants as said
use Rattle.verifier.specs.declared.judges.Word.{Word}
use Rattle.verifier.specs.declared.judges.Word.TheVariants as word
use Rattle.std.specs.List.{remove}
use Rattle.std.proofs.lemmas.Bool.Decides.{Decides-eqb}
use Rattle.device.specs.declared.refusals.Refusal.{Refusal}
use Rattle.device.specs.declared.refusals.Refusal.TheVariants as refusal
use Rattle.device.proofs.Rows.{same_digests_decides}
use Rattle.device.proofs.Things.{same_data_decides}
use Rattle.model.specs.Effect as effect
use Rattle.model.specs.Promise.{Judged}
use Rattle.model.proofs.Acceptances.{asked_by_then}
use Rattle.model.proofs.Judges.{settled}
use Rattle.verifier.specs.declared.judges.List as list
use Rattle.verifier.specs.declared.judges.Reply.{Reply}
use Rattle.verifier.specs.Rows.{flags}
use Rattle.verifier.specs.Searches.{some, seek, place, has_number, asks}
use Rattle.verifier.specs.Seats.{Seat, refused, with_questions, listed, signs, new_question, answer_by, answer_at, answer_of, office_of, net_of}
use Rattle.verifier.specs.Worlds.{question_of}
use Rattle.fleet.proofs.Words.{answer_true}
use Rattle.fleet.specs.declared.fleets.Act.{Act}
use Rattle.fleet.specs.declared.fleets.Act.TheVariants.{Switch, Start, Load, Give, Keep, Run as RunBad, CutCount, CutClose}
use Rattle.fleet.specs.declared.fleets.Event.{Event}
use Rattle.fleet.specs.declared.fleets.Event.TheVariants.{At, Office, Net, Fall, Write, Wipe}
use Rattle.fleet.specs.declared.fleets.Fault.{Fault}
use Rattle.fleet.specs.declared.fleets.Fault.TheVariants.{Nobody, NoMemory}
use Rattle.fleet.specs.declared.fleets.Report.{Report}
use Rattle.fleet.specs.declared.fleets.Report.TheVariants.{Done}
use Rattle.fleet.specs.declared.fleets.Shown.{Shown}
use Rattle.fleet.specs.Sights.{Sight, tainted, same_signature, ran_of, shown_by, opening_told, running, acted, judged, machine_at, seat_at, found, played}
use Rattle.fleet.specs.Worlds.{Setting, term_by, nonce_by, term_of, drawn, FleetStands, WordAllowed, Goes}
use Rattle.fleet.specs.Runs.{Allowed, after, Happening, next, Ran, Ready, OfAccepted}
use Rattle.fleet.specs.Stories.{longer, Really, IfRan, RanClaim, Story, FleetStory}
use Rattle.fleet.proofs.Plays.{plays, claimed, new_stands}

-- ---- only a signature is remembered

shown_cond : (S : List Shown) (b : Bool) (p q : Sight × Result Report Fault) → p.0.shown ≡ S → q.0.shown ≡ S → (cond b p q).0.shown ≡ S
shown_cond S true p q e f = e
shown_cond S false p q e f = f

opening_shown : (b : Bool) (i : ℕ) (s : Sight) (x : Machine) (r : Result Data Refusal) → (opening_told b i s x r).0.shown ≡ s.shown
opening_shown true i s x (Ok d) = refl
opening_shown false i s x (Ok d) = refl
opening_shown b i s x (Err k) = refl

running_shown : (i : ℕ) (s : Sight) (x : Machine) (r : Option Register) → (running i s x r).0.shown ≡ s.shown
running_shown i s x None = refl
running_shown i s x (Some r) = refl

judged_shown : (j : ℕ) (s : Sight) (x : Word) (r : Seat × Result Said JudgeFault) → (judged j s x r).0.shown ≡ s.shown
judged_shown j s x (d, Ok z) = refl
judged_shown j s x (d, Err f) = refl

-- nothing is remembered, or machine i signed d
abbrev Shows : Bool → Sight → Event → Sight → Type 0
Shows m s e t = (t.shown ≡ s.shown) ⊎ ((i : ℕ) × (d : Data) × (e ≡ At i (Give (command.Sign d))) × (ltb i (length s.machines) ≡ true) × (m ≡ true) × (t.shown ≡ shown_by (machine_at s i) d ∷ s.shown))

act_shows : (m : Bool) (s : Sight) (i : ℕ) (a : Act) (b : Bool) → ltb i (length s.machines) ≡ b → Shows m s (At i a) (cond b (acted m i s (machine_at s i) a) (s, Err Nobody)).0
act_shows m s i a false e = inl refl
act_shows m s i Switch true e = inl refl
act_shows m s i (Start n) true e = inl refl
act_shows m s i (Load n) true e = inl refl
act_shows m s i (Give (command.Put d)) true e = inl (shown_cond s.shown (tainted s (machine_at s i)) _ _ refl refl)
act_shows true s i (Give (command.Sign d)) true e = inr (i, d, refl, e, refl, refl)
act_shows false s i (Give (command.Sign d)) true e = inl refl
act_shows m s i (Give command.Count) true e = inl refl
act_shows m s i (Give (command.Close t d)) true e = inl refl
act_shows m s i (Give (command.Open y)) true e = inl (shown_cond s.shown m _ _ (opening_shown _ i s (machine_at s i) (chip.opened (machine_at s i).chip y)) refl)
act_shows m s i (Give command.Read) true e = inl refl
act_shows m s i (Give command.SwitchedOn) true e = inl refl
act_shows m s i (Keep t d) true e = inl refl
act_shows m s i (RunBad d) true e = inl (shown_cond s.shown (tainted s (machine_at s i)) _ _ (running_shown i s (machine_at s i) (pushed (machine_at s i).ran d)) refl)
act_shows m s i (CutCount c) true e = inl refl
act_shows m s i CutClose true e = inl refl

shows : (m : Bool) (s : Sight) (e : Event) (ds : List Digest) → Shows m s e (played m s e ds).0
shows m s (At i a) ds = act_shows m s i a _ refl
shows m s (Office j x q) ds = inl (shown_cond s.shown (ltb j (length s.seats)) _ _ (shown_cond s.shown m _ _ (judged_shown j s x (office_of true (seat_at s j) x ds q)) refl) refl)
shows m s (Net j x) ds = inl (shown_cond s.shown (ltb j (length s.seats)) _ _ (judged_shown j s x (net_of (seat_at s j) x)) refl)
shows m s (Fall j) ds = inl (shown_cond s.shown (ltb j (length s.seats)) (_, Ok Done) (s, Err Nobody) refl refl)
shows m s (Write n f g) ds = inl (shown_cond s.shown m (_, Ok Done) (s, Err NoMemory) refl refl)
shows m s Wipe ds = inl refl

-- ---- what is remembered of a signature was so at a moment

record WasShown (o : Setting) {k : ℕ} {w : World} (l : Run o.programs k made w) (x : Shown) : Type 0 where
  moment : Moment o.programs l
  register_was : (moment.world.machines x.signature.chip).register ≡ words x.signature.register
  ran_was : (moment.world.machines x.signature.chip).ran ≡ words x.ran
  had : Derives moment.world.heard (term_of o x.signature.«data»)

abbrev Remembers : (o : Setting) → Sight → {k : ℕ} {w : World} → Run o.programs k made w → Type 0
Remembers o s l = (x : Shown) → Memᴰ x s.shown → WasShown o l x

-- over further steps
shown_longer : (o : Setting) {k : ℕ} {w : World} (l : Run o.programs k made w) (x : Shown) → WasShown o l x → {j : ℕ} {v : World} (r : Run o.programs j w v) → WasShown o (longer l r).1 x
shown_longer o l x h here = h
shown_longer o l x h (onward m s) = let g = shown_longer o l x h m in record { moment = then s g.moment; register_was = g.register_was; ran_was = g.ran_was; had = g.had }

-- at the moment at which it is given out
shown_now : (o : Setting) (s : Sight) (i : ℕ) (d : Data) {k : ℕ} {w : World} (l : Run o.programs k made w) → FleetStands o s w → i < length s.machines → Derives w.heard (term_of o d) → WasShown o l (shown_by (machine_at s i) d)
shown_now o s i d {w = w} l f below h =
    let st = f.machines_stand i below in
    record { moment = now l; register_was = ap (λ a. (w.machines a).register) st.chip_stands.is ∙ sym st.chip_stands.like.register_is; ran_was = ap (λ a. (w.machines a).ran) st.chip_stands.is ∙ sym st.ran_is; had = h }

remembers_next : (o : Setting) (m : Bool) (s : Sight) (e : Event) (ds : List Digest) (w : World) → Allowed o m s e ds w → FleetStands o s w → {k : ℕ} (l : Run o.programs k made w) → Remembers o s l → {j : ℕ} {v : World} (r : Run o.programs j w v) → Remembers o (played m s e ds).0 (longer l r).1
remembers_next o m s e ds w h f l old r = by (shows m s e ds)
  where
    by : Shows m s e (played m s e ds).0 → Remembers o (played m s e ds).0 (longer l r).1
    by (inl same) x k = shown_longer o l x (old x (subst (λ xs. Memᴰ x xs) same k)) r
    by (inr (i, d, is, inside, found, more)) x k = shown_longer o l x (either (subst (λ xs. Memᴰ x xs) more k)) r
      where
        allowed : Allowed o m s (At i (Give (command.Sign d))) ds w
        allowed = subst (λ z. Allowed o m s z ds w) is h

        either : Memᴰ x (shown_by (machine_at s i) d ∷ s.shown) → WasShown o l x
        either (Memᴰ.head same) = subst (λ z. WasShown o l z) (sym same) (shown_now o s i d l f (ltb→lt i _ (subst (λ b. T b) (sym inside) tt)) (allowed inside found))
        either (Memᴰ.tail g) = old x g

-- ---- an acceptance is reported with what had been loaded

seek_cons : {A : Type 0} (p : A → Bool) (x : A) (xs : List A) → seek p (x ∷ xs) ≡ cond (p x) (Some x) (seek p xs)
unfolding seek
seek_cons p x xs = refl

seek_nil : {A : Type 0} (p : A → Bool) → seek p [] ≡ None
unfolding seek
seek_nil p = refl

-- what is found is there, and passes
seek_found : {A : Type 0} (p : A → Bool) (xs : List A) (x : A) → seek p xs ≡ Some x → Memᴰ x xs × (p x ≡ true)
seek_found p [] x e = let none = seek_nil p in let contrary : ◌≡◌ {A = ℕ} 0 1 = cc in absurd (omega arith)
seek_found {A} p (y ∷ ys) x e = by (p y) refl (sym (seek_cons p y ys) ∙ e) (λ h. seek_found p ys x h)
  where
    by : (b : Bool) → p y ≡ b → cond b (Some y) (seek p ys) ≡ Some x → (seek p ys ≡ Some x → Memᴰ x ys × (p x ≡ true)) → Memᴰ x (y ∷ ys) × (p x ≡ true)
    by true is f rest = let same : y ≡ x = cc in (Memᴰ.head (sym same), subst (λ z. p z ≡ true) same is)
    by false is f rest = (Memᴰ.tail (rest f).0, (rest f).1)

-- what was accepted was signed by this chip, over this data
accepted_signs : (d : Seat) (p : Reply) (z : Acceptance) → (answer_of d p).1 ≡ Ok (said.Accepted z) → signs p z.row ≡ true
accepted_signs d p z = by_chip (some (eqb p.chip) d.chips)
  where
    by_sign : (l : list.List) (k : ℕ) (b : Bool) → signs p l.row ≡ b → (cond {A = Seat × Result Said JudgeFault} b (with_questions (remove d.questions k) d, Ok (said.Accepted (record { list = l.number; row = l.row; flags = flags (listed d.good) l.row }))) (refused d refusal.BadSignature)).1 ≡ Ok (said.Accepted z) → signs p z.row ≡ true
    by_sign l k true is e = let same : record { list = l.number; row = l.row; flags = flags (listed d.good) l.row } ≡ z = cc in subst (λ y. signs p y.row ≡ true) same is
    by_sign l k false is e = absurd (grind arith)

    by_list : (k : ℕ) (o : Option list.List) → (answer_by d p k o).1 ≡ Ok (said.Accepted z) → signs p z.row ≡ true
    by_list k None e = absurd (grind arith)
    by_list k (Some l) e = by_sign l k (signs p l.row) refl e

    by_place : (o : Option ℕ) → (answer_at d p o).1 ≡ Ok (said.Accepted z) → signs p z.row ≡ true
    by_place None e = absurd (grind arith)
    by_place (Some k) e = by_list k (seek (has_number p.list) d.lists) e

    by_chip : (b : Bool) → (cond {A = Seat × Result Said JudgeFault} b (answer_at d p (place (asks p.chip p.«data») 0 d.questions)) (refused d refusal.UnknownChip)).1 ≡ Ok (said.Accepted z) → signs p z.row ≡ true
    by_chip true e = by_place (place (asks p.chip p.«data») 0 d.questions) e
    by_chip false e = absurd (grind arith)

-- the three parts of a test of a signature
three : (a b c : Bool) → (a && b && c) ≡ true → (a ≡ true) × (b ≡ true) × (c ≡ true)
three true true true e = (refl, refl, refl)
three true true false e = absurd (true≢false (sym e))
three true false c e = absurd (true≢false (sym e))
three false b c e = absurd (true≢false (sym e))

answer_really : (o : Setting) (s : Sight) (j : ℕ) (w : World) → j < length s.seats → FleetStands o s w → (p : Reply) (r : Seat × Result Said JudgeFault) → r ≡ answer_of (seat_at s j) p → WordAllowed o (word.Answer p) r.1 w → {k : ℕ} (l : Run o.programs k made w) → Remembers o s l → OfAccepted (judged j s (word.Answer p) r).1 (λ row ran. IfRan ran (λ x. Really o j p row x l))
answer_really o s j w below f p (e, Ok said.Done) is h l old = tt
answer_really o s j w below f p (e, Ok (said.Asks b c)) is h l old = tt
answer_really o s j w below f p (e, Err k) is h l old = tt
answer_really o s j w below f p (e, Ok (said.Accepted z)) is h l old = by (seek (same_signature p.signature) s.shown) refl
  where
    judged_so : Judged o.programs l (effect.acceptance (question_of (drawn o) j (new_question p.chip p.«data»)) (words z.row))
    judged_so = answer_true o s j w below f p (e, Ok (said.Accepted z)) is h l

    mine : (p.signature.chip ≡ p.chip) × (p.signature.«data» ≡ p.«data») × (words p.signature.register ≡ words z.row)
    mine =
        let (a, b, c) = three _ _ _ (accepted_signs (seat_at s j) p z (sym (ap (λ q. q.1) is))) in
        ((Decides-eqb _ _).0 a, (same_data_decides _ _).0 b, ap (λ ds. map (λ d. d.bytes) (reverse ds)) ((same_digests_decides (row p.signature.register) (row z.row)).0 c))

    by : (x : Option Shown) → seek (same_signature p.signature) s.shown ≡ x → IfRan (ran_of x) (λ ran. Really o j p z.row ran l)
    by None sought = tt
    by (Some x) sought =
        let (there, passes) = seek_found (same_signature p.signature) s.shown x sought in
        let (a, b, c) = three _ _ _ passes in
        let chip_is : x.signature.chip ≡ p.chip = sym ((Decides-eqb _ _).0 a) ∙ mine.0 in
        let data_is : x.signature.«data» ≡ p.«data» = sym ((same_data_decides _ _).0 b) ∙ mine.1 in
        let row_is : words x.signature.register ≡ words z.row = ap (λ ds. map (λ d. d.bytes) (reverse ds)) (sym ((same_digests_decides (row p.signature.register) (row x.signature.register)).0 c)) ∙ mine.2 in
        let was = old x there in
        record {
          moment = was.moment;
          asked_first = λ n named. asked_by_then was.moment _ (((settled l).fair j).open_asked _ judged_so.is_open).0 (subst (λ t. Derives was.moment.world.heard t) (ap (λ z. term_of o z) data_is ∙ ap term_by named ∙ ap effect.honest (sym (ap nonce_by named))) was.had);
          register_was = ap (λ a. (was.moment.world.machines a).register) (sym chip_is) ∙ was.register_was ∙ row_is;
          ran_was = ap (λ a. (was.moment.world.machines a).ran) (sym chip_is) ∙ was.ran_was;
        }

-- ---- along the run

ran_claimed : (o : Setting) (m : Bool) (s : Sight) (e : Event) (ds : List Digest) (w : World) → Allowed o m s e ds w → FleetStands o s w → {k : ℕ} (l : Run o.programs k made w) → Remembers o s l → RanClaim o e (played m s e ds).1 l
ran_claimed o m s e ds w h f l old = claimed o m s e ds w _ (λ j below p r is g. answer_really o s j w below f p r is g l old) h

story : (o : Setting) (s t : Sight) (ps : List Happening) (w : World) {k : ℕ} (l : Run o.programs k made w) → FleetStands o s w → Remembers o s l → Ran s ps t → (h : Ready o s ps w) → Story o s ps w l h
story o s t [] w l f old r h = tt
story o s t (p ∷ ps) w l f old (r, rs) h = more (plays o (found p.report) s p.event p.digests w h.0 f) (λ g. story o (next s p) t ps _ (longer l g.run).1 g.stands (remembers_next o (found p.report) s p.event p.digests w h.0 f l old g.run) rs h.1)
  where
    more : (g : Goes o (next s p) w (after o (found p.report) s p.event p.digests w h.0)) → ((g : Goes o (next s p) w (after o (found p.report) s p.event p.digests w h.0)) → Story o (next s p) ps (after o (found p.report) s p.event p.digests w h.0) (longer l g.run).1 h.1) → Story o s (p ∷ ps) w l h
    more g rest = (subst (λ z. RanClaim o p.event z l) (sym r) (ran_claimed o (found p.report) s p.event p.digests w h.0 f l old), (g, rest g))

pub fleet_story : FleetStory
fleet_story o first bad m j s t ps n a r h = story o s t ps made here (new_stands o first bad m j s n a) (λ x k. absurd (Memᴰ.not-nil (subst (λ xs. Memᴰ x xs) n.shown_is k))) r h
