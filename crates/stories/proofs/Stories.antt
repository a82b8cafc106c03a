-- What really ran.
use Rattle.std.proofs.Common.{◌≡◌, ℕ, ◌<◌, Bool, true, false, cond, ◌&&◌, eqb, ltb, ◌⊎◌, List, [], ◌∷◌, map, reverse, length, Some, None, Option, Ok, Err, Result, sym, refl, ap, ◌∙◌, subst, inl, inr, true≢false, arith}
use mathlib.Core.List.Memᴰ
use mathlib.Core.List.{Memᴰ}
use Rattle.model.specs.Term.{Derives}
use Rattle.model.specs.World.{World}
use Rattle.model.specs.Effect.{made}
use Rattle.model.specs.Run.{Run, here, onward, Moment}
use Rattle.model.proofs.Knowledge.{derives_safe}
use Rattle.model.proofs.Moments.{now, then}
use Rattle.verifier.proofs.Searches.{seek_member}
use Rattle.device.specs.declared.chips.Command.TheVariants as command
use Rattle.device.specs.declared.digests.Data.{Data}
use Rattle.device.specs.declared.digests.Digest.{Digest}
use Rattle.device.specs.declared.registers.Register.{Register}
use Rattle.device.specs.Rows.{row, words}
use Rattle.verifier.specs.declared.judges.Acceptance.{Acceptance}
use Rattle.verifier.specs.declared.judges.Fault.{Fault as JudgeFault}
use Rattle.verifier.specs.declared.judges.Said.{Said}
use Rattle.verifier.specs.declared.judges.Said.TheVariants as said
use Rattle.verifier.specs.declared.judges.Word.{Word}
use Rattle.verifier.specs.declared.judges.Word.TheVariants as word
use Rattle.std.specs.List.{remove}
use Rattle.std.proofs.lemmas.Bool.Decides.{Decides-eqb}
use Rattle.device.specs.declared.refusals.Refusal.TheVariants as refusal
use Rattle.device.proofs.Rows.{same_digests_decides, same_words}
use Rattle.device.proofs.Things.{same_data_decides}
use Rattle.model.specs.Effect as effect
use Rattle.model.specs.Promise.{Judged}
use Rattle.model.proofs.Acceptances.{asked_by_then}
use Rattle.model.proofs.Judges.{settled}
use Rattle.verifier.specs.declared.judges.List as list
use Rattle.verifier.specs.declared.judges.Reply.{Reply}
use Rattle.verifier.specs.Rows.{flags}
use Rattle.verifier.specs.Searches.{some, seek, place, has_number, asks}
use Rattle.verifier.specs.Seats.{Seat, refused, with_questions, listed, signs, new_question, answer_by, answer_at, answer_of, office_of, net_of}
use Rattle.verifier.specs.Worlds.{question_of}
use Rattle.fleet.proofs.Words.{answer_true}
use Rattle.fleet.specs.declared.fleets.Act.TheVariants.{Give}
use Rattle.fleet.specs.declared.fleets.Event.{Event}
use Rattle.fleet.specs.declared.fleets.Event.TheVariants.{At, Office, Net, Fall, Write, Wipe}
use Rattle.fleet.specs.declared.fleets.Fault.TheVariants.{Nobody, NoMemory}
use Rattle.fleet.specs.declared.fleets.Report.TheVariants.{Done}
use Rattle.fleet.specs.declared.fleets.Shown.{Shown}
use Rattle.fleet.specs.Sights.{Sight, same_signature, ran_of, shown_by, acted, judged, machine_at, seat_at, found, played}
use Rattle.fleet.specs.Worlds.{Setting, term_by, nonce_by, term_of, drawn, FleetStands, WordAllowed, Goes}
use Rattle.fleet.specs.Runs.{Allowed, after, Happening, next, Ran, Ready, OfAccepted}
use Rattle.stories.specs.Stories.{longer, Really, IfRan, RanClaim, Story, FleetStory}
use Rattle.stories.proofs.Blind.{Blind, act_blind, view_cond}
use Rattle.stories.proofs.Named.{All, IsDrawn, Named, named_next, placed_drawn}
use Rattle.stories.proofs.Noted.{Noted, Known, known_next}
use Rattle.fleet.proofs.Plays.{in_range, plays, claimed, new_stands}

-- ---- only a signature is remembered

judged_shown : (j : ℕ) (s : Sight) (x : Word) (r : Seat × Result Said JudgeFault) → (judged j s x r).0.shown ≡ s.shown
judged_shown j s x (d, Ok y) = refl
judged_shown j s x (d, Err k) = refl

-- nothing is remembered, or machine i signed d
abbrev Shows : Bool → Sight → Event → Sight → Type 0
Shows m s e t = (t.shown ≡ s.shown) ⊎ ((i : ℕ) × (d : Data) × (e ≡ At i (Give (command.Sign d))) × (ltb i (length s.machines) ≡ true) × (m ≡ true) × (t.shown ≡ shown_by (machine_at s i) d ∷ s.shown))

shows : (m : Bool) (s : Sight) (e : Event) (ds : List Digest) → Shows m s e (played m s e ds).0
shows m s (At i a) ds = by (act_blind (λ t. t.shown) (λ _ _ _. refl) (λ _ _. refl) (λ _ _. refl) m s i a _ refl)
  where
    by : Blind (λ t. t.shown) m s i a (played m s (At i a) ds).0 → Shows m s (At i a) (played m s (At i a) ds).0
    by (inl same) = inl same
    by (inr (d, is, inside, found, signed)) = inr (i, d, ap (At i) is, inside, found, ap (λ t. t.shown) signed)
shows m s (Office j x q) ds = inl (view_cond (λ t. t.shown) s.shown (ltb j (length s.seats)) _ _ (view_cond (λ t. t.shown) s.shown m _ _ (judged_shown j s x (office_of true (seat_at s j) x ds q)) refl) refl)
shows m s (Net j x) ds = inl (view_cond (λ t. t.shown) s.shown (ltb j (length s.seats)) _ _ (judged_shown j s x (net_of (seat_at s j) x)) refl)
shows m s (Fall j) ds = inl (view_cond (λ t. t.shown) s.shown (ltb j (length s.seats)) (_, Ok Done) (s, Err Nobody) refl refl)
shows m s (Write n f g) ds = inl (view_cond (λ t. t.shown) s.shown m (_, Ok Done) (s, Err NoMemory) refl refl)
shows m s Wipe ds = inl refl

-- ---- what is remembered of a signature was so at a moment

record WasShown (o : Setting) {k : ℕ} {w : World} (l : Run o.programs k made w) (x : Shown) : Type 0 where
  moment : Moment o.programs l
  register_was : (moment.world.machines x.signature.chip).register ≡ words x.signature.register
  ran_was : (moment.world.machines x.signature.chip).ran ≡ words x.ran
  had : Derives moment.world.heard (term_of o x.signature.«data»)

-- each note is true of a moment of the run; every signature that outsiders can have is noted; every open question was drawn
record Remembers (o : Setting) (s : Sight) {k : ℕ} {w : World} (l : Run o.programs k made w) : Type 0 where
  was : (x : Shown) → Memᴰ x s.shown → WasShown o l x
  known : Known o s.shown w.heard
  named : Named o s

-- over further steps
shown_longer : (o : Setting) {k : ℕ} {w : World} (l : Run o.programs k made w) (x : Shown) → WasShown o l x → {j : ℕ} {v : World} (r : Run o.programs j w v) → WasShown o (longer l r).1 x
shown_longer o l x h here = h
shown_longer o l x h (onward m s) = let g = shown_longer o l x h m in record { moment = then s g.moment; register_was = g.register_was; ran_was = g.ran_was; had = g.had }

-- at the moment at which it is given out
shown_now : (o : Setting) (s : Sight) (i : ℕ) (d : Data) {k : ℕ} {w : World} (l : Run o.programs k made w) → FleetStands o s w → i < length s.machines → Derives w.heard (term_of o d) → WasShown o l (shown_by (machine_at s i) d)
shown_now o s i d {w = w} l f below h =
    let st = f.machines_stand i below in
    record { moment = now l; register_was = ap (λ a. (w.machines a).register) st.chip_stands.is ∙ sym st.chip_stands.like.register_is; ran_was = ap (λ a. (w.machines a).ran) st.chip_stands.is ∙ sym st.ran_is; had = h }

signing_shows : (m : Bool) (s : Sight) (e : Event) (ds : List Digest) (i : ℕ) (d : Data) → e ≡ At i (Give (command.Sign d)) → ltb i (length s.machines) ≡ true → m ≡ true → (played m s e ds).0.shown ≡ shown_by (machine_at s i) d ∷ s.shown
signing_shows m s e ds i d is inside found = subst (λ z. (played m s z ds).0.shown ≡ shown_by (machine_at s i) d ∷ s.shown) (sym is) (go (ltb i (length s.machines)) m inside found)
  where
    go : (b m : Bool) → b ≡ true → m ≡ true → (cond b (acted m i s (machine_at s i) (Give (command.Sign d))) (s, Err Nobody)).0.shown ≡ shown_by (machine_at s i) d ∷ s.shown
    go true true _ _ = refl
    go true false _ e = absurd (true≢false (sym e))
    go false m e _ = absurd (true≢false (sym e))

-- the note of a signature that is given out now
noted_now : (o : Setting) (s : Sight) (i : ℕ) (d : Data) (w : World) (xs : List Shown) → FleetStands o s w → i < length s.machines → xs ≡ shown_by (machine_at s i) d ∷ s.shown → Noted o xs i (effect.statement (term_of o d) (w.machines i).register)
noted_now o s i d w xs f below e =
    let st = f.machines_stand i below in
    (shown_by (machine_at s i) d, subst (λ ys. Memᴰ (shown_by (machine_at s i) d) ys) (sym e) (Memᴰ.head refl), st.chip_stands.is, ap (λ r. effect.statement (term_of o d) r) (sym st.chip_stands.like.register_is))

remembers_next : (o : Setting) (m : Bool) (s : Sight) (e : Event) (ds : List Digest) (w : World) (h : Allowed o m s e ds w) → FleetStands o s w → {k : ℕ} (l : Run o.programs k made w) → Remembers o s l → {j : ℕ} (r : Run o.programs j w (after o m s e ds w h)) → Remembers o (played m s e ds).0 (longer l r).1
remembers_next o m s e ds w h f l old r = by (shows m s e ds)
  where
    notes : (i : ℕ) (d : Data) → e ≡ At i (Give (command.Sign d)) → ltb i (length s.machines) ≡ true → m ≡ true → Noted o (played m s e ds).0.shown i (effect.statement (term_of o d) (w.machines i).register)
    notes i d is inside found = noted_now o s i d w _ f (in_range i _ inside) (signing_shows m s e ds i d is inside found)

    by : Shows m s e (played m s e ds).0 → Remembers o (played m s e ds).0 (longer l r).1
    by (inl same) =
        record {
          was = λ x k. shown_longer o l x (old.was x (subst (λ xs. Memᴰ x xs) same k)) r;
          known = known_next o s.shown _ m s e ds w h (λ x k. subst (λ xs. Memᴰ x xs) (sym same) k) notes old.known;
          named = named_next o m s e ds w h old.named;
        }
    by (inr (i, d, is, inside, found, more)) =
        record {
          was = λ x k. shown_longer o l x (either x (subst (λ xs. Memᴰ x xs) more k)) r;
          known = known_next o s.shown _ m s e ds w h (λ x k. subst (λ xs. Memᴰ x xs) (sym more) (Memᴰ.tail k)) notes old.known;
          named = named_next o m s e ds w h old.named;
        }
      where
        below : i < length s.machines
        below = in_range i _ inside

        allowed : Allowed o m s (At i (Give (command.Sign d))) ds w
        allowed = subst (λ z. Allowed o m s z ds w) is h

        either : (x : Shown) → Memᴰ x (shown_by (machine_at s i) d ∷ s.shown) → WasShown o l x
        either x (Memᴰ.head same) = subst (λ z. WasShown o l z) (sym same) (shown_now o s i d l f below (allowed inside found))
        either x (Memᴰ.tail g) = old.was x g

-- ---- an acceptance is reported with what had been loaded

seek_cons : {A : Type 0} (p : A → Bool) (x : A) (xs : List A) → seek p (x ∷ xs) ≡ cond (p x) (Some x) (seek p xs)
unfolding seek
seek_cons p x xs = refl

-- where nothing is found, nothing passes
seek_none : {A : Type 0} (p : A → Bool) (xs : List A) (x : A) → seek p xs ≡ None → Memᴰ x xs → p x ≡ true → ⊥
seek_none p [] x e there passes = absurd (Memᴰ.not-nil there)
seek_none {A} p (y ∷ ys) x e there passes = by (p y) refl (sym (seek_cons p y ys) ∙ e) (λ h k. seek_none p ys x h k passes) there
  where
    by : (b : Bool) → p y ≡ b → cond b (Some y) (seek p ys) ≡ None → (seek p ys ≡ None → Memᴰ x ys → ⊥) → Memᴰ x (y ∷ ys) → ⊥
    by true is f rest k = let contrary : ◌≡◌ {A = ℕ} 0 1 = cc in absurd (omega arith)
    by false is f rest (Memᴰ.head same) = absurd (true≢false (sym passes ∙ ap p same ∙ is))
    by false is f rest (Memᴰ.tail k) = rest f k

-- what was accepted answers a question that was open, and was signed by this chip, over this data
abbrev Answers : Seat → Reply → Register → Type 0
Answers d p row = ((k : ℕ) × (place (asks p.chip p.«data») 0 d.questions ≡ Some k)) × (signs p row ≡ true)

accepted_answers : (d : Seat) (p : Reply) (z : Acceptance) → (answer_of d p).1 ≡ Ok (said.Accepted z) → Answers d p z.row
accepted_answers d p z = by_chip (some (eqb p.chip) d.chips)
  where
    by_sign : (l : list.List) (k : ℕ) (b : Bool) → signs p l.row ≡ b → (cond {A = Seat × Result Said JudgeFault} b (with_questions (remove d.questions k) d, Ok (said.Accepted (record { list = l.number; row = l.row; flags = flags (listed d.good) l.row }))) (refused d refusal.BadSignature)).1 ≡ Ok (said.Accepted z) → signs p z.row ≡ true
    by_sign l k true is e = let same : record { list = l.number; row = l.row; flags = flags (listed d.good) l.row } ≡ z = cc in subst (λ y. signs p y.row ≡ true) same is
    by_sign l k false is e = absurd (grind arith)

    by_list : (k : ℕ) (o : Option list.List) → (answer_by d p k o).1 ≡ Ok (said.Accepted z) → signs p z.row ≡ true
    by_list k None e = absurd (grind arith)
    by_list k (Some l) e = by_sign l k (signs p l.row) refl e

    by_place : (o : Option ℕ) → place (asks p.chip p.«data») 0 d.questions ≡ o → (answer_at d p o).1 ≡ Ok (said.Accepted z) → Answers d p z.row
    by_place None is e = absurd (grind arith)
    by_place (Some k) is e = ((k, is), by_list k (seek (has_number p.list) d.lists) e)

    by_chip : (b : Bool) → (cond {A = Seat × Result Said JudgeFault} b (answer_at d p (place (asks p.chip p.«data») 0 d.questions)) (refused d refusal.UnknownChip)).1 ≡ Ok (said.Accepted z) → Answers d p z.row
    by_chip true e = by_place (place (asks p.chip p.«data») 0 d.questions) refl e
    by_chip false e = absurd (grind arith)

-- the three parts of a test of a signature
three : (a b c : Bool) → (a && b && c) ≡ true → (a ≡ true) × (b ≡ true) × (c ≡ true)
three true true true e = (refl, refl, refl)
three true true false e = absurd (true≢false (sym e))
three true false c e = absurd (true≢false (sym e))
three false b c e = absurd (true≢false (sym e))

all_three : (a b c : Bool) → a ≡ true → b ≡ true → c ≡ true → (a && b && c) ≡ true
all_three a b c e f g = (λ i. e i && f i && g i)

-- bytes whose term is a drawn nonce are named so
named_so : (o : Setting) (d : Data) (n : ℕ) → term_of o d ≡ effect.honest n → o.names d.bytes ≡ Some n
named_so o d n = by (o.names d.bytes)
  where
    by : (m : Option ℕ) → term_by m ≡ effect.honest n → m ≡ Some n
    by (Some m) e = ap Some (grind arith)
    by None e = absurd (grind arith)

answer_really : (o : Setting) (s : Sight) (j : ℕ) (w : World) → j < length s.seats → FleetStands o s w → (p : Reply) (r : Seat × Result Said JudgeFault) → r ≡ answer_of (seat_at s j) p → WordAllowed o (word.Answer p) r.1 w → {k : ℕ} (l : Run o.programs k made w) → Remembers o s l → OfAccepted (judged j s (word.Answer p) r).1 (λ row ran. IfRan ran (λ x. Really o j p row x l))
answer_really o s j w below f p (e, Ok said.Done) is h l old = tt
answer_really o s j w below f p (e, Ok (said.Asks b c)) is h l old = tt
answer_really o s j w below f p (e, Err k) is h l old = tt
answer_really o s j w below f p (e, Ok (said.Accepted z)) is h l old = by (seek (same_signature p.signature) s.shown) refl
  where
    judged_so : Judged o.programs l (effect.acceptance (question_of (drawn o) j (new_question p.chip p.«data»)) (words z.row))
    judged_so = answer_true o s j w below f p (e, Ok (said.Accepted z)) is h l

    answers : Answers (seat_at s j) p z.row
    answers = accepted_answers (seat_at s j) p z (sym (ap (λ q. q.1) is))

    -- the question's bytes were drawn
    named : IsDrawn o p.«data»
    named = placed_drawn o p.chip p.«data» 0 (seat_at s j).questions answers.0.0 (old.named j below) answers.0.1

    nonce_is : term_of o p.«data» ≡ effect.honest (drawn o p.«data».bytes)
    nonce_is = ap term_by named.1 ∙ ap effect.honest (sym (ap nonce_by named.1))

    mine : (p.signature.chip ≡ p.chip) × (p.signature.«data» ≡ p.«data») × (words p.signature.register ≡ words z.row)
    mine =
        let (a, b, c) = three _ _ _ answers.1 in
        ((Decides-eqb _ _).0 a, (same_data_decides _ _).0 b, ap (λ ds. map (λ d. d.bytes) (reverse ds)) ((same_digests_decides (row p.signature.register) (row z.row)).0 c))

    noted : Noted o s.shown p.chip (effect.statement (effect.honest (drawn o p.«data».bytes)) (words p.signature.register))
    noted = (derives_safe (λ _. Unit {0}) (Noted o s.shown) (λ _. tt) old.known (h z refl)).0

    -- so the signature is found among the notes
    passing : (x : Shown) → x.signature.chip ≡ p.chip → effect.statement (effect.honest (drawn o p.«data».bytes)) (words p.signature.register) ≡ effect.statement (term_of o x.signature.«data») (words x.signature.register) → same_signature p.signature x ≡ true
    passing x chip_is same =
        let nonce : effect.honest (drawn o p.«data».bytes) ≡ term_of o x.signature.«data» = cc in
        let rows : words p.signature.register ≡ words x.signature.register = cc in
        let bytes : p.«data».bytes ≡ x.signature.«data».bytes = o.apart _ _ _ (named_so o p.«data» _ nonce_is) (named_so o x.signature.«data» _ (sym nonce)) in
        all_three _ _ _ ((Decides-eqb _ _).1 (mine.0 ∙ sym chip_is)) ((same_data_decides _ _).1 (mine.1 ∙ (λ i. record { bytes = bytes i }))) ((same_digests_decides (row p.signature.register) (row x.signature.register)).1 (same_words p.signature.register x.signature.register rows))

    by : (x : Option Shown) → seek (same_signature p.signature) s.shown ≡ x → IfRan (ran_of x) (λ ran. Really o j p z.row ran l)
    by None found = let (x, there, chip_is, same) = noted in seek_none (same_signature p.signature) s.shown x found there (passing x chip_is same)
    by (Some x) found =
        let (there, passes) = seek_member (same_signature p.signature) s.shown x found in
        let (a, b, c) = three _ _ _ passes in
        let chip_is : x.signature.chip ≡ p.chip = sym ((Decides-eqb _ _).0 a) ∙ mine.0 in
        let data_is : x.signature.«data» ≡ p.«data» = sym ((same_data_decides _ _).0 b) ∙ mine.1 in
        let row_is : words x.signature.register ≡ words z.row = ap (λ ds. map (λ d. d.bytes) (reverse ds)) (sym ((same_digests_decides (row p.signature.register) (row x.signature.register)).0 c)) ∙ mine.2 in
        let was = old.was x there in
        record {
          moment = was.moment;
          asked_first = asked_by_then was.moment _ (((settled l).fair j).open_asked _ judged_so.is_open).0 (subst (λ t. Derives was.moment.world.heard t) (ap (λ z. term_of o z) data_is ∙ nonce_is) was.had);
          register_was = ap (λ a. (was.moment.world.machines a).register) (sym chip_is) ∙ was.register_was ∙ row_is;
          ran_was = ap (λ a. (was.moment.world.machines a).ran) (sym chip_is) ∙ was.ran_was;
        }

-- ---- along the run

ran_claimed : (o : Setting) (m : Bool) (s : Sight) (e : Event) (ds : List Digest) (w : World) → Allowed o m s e ds w → FleetStands o s w → {k : ℕ} (l : Run o.programs k made w) → Remembers o s l → RanClaim o e (played m s e ds).1 l
ran_claimed o m s e ds w h f l old = claimed o m s e ds w _ (λ j below p r is g. answer_really o s j w below f p r is g l old) h

story : (o : Setting) (s t : Sight) (ps : List Happening) (w : World) {k : ℕ} (l : Run o.programs k made w) → FleetStands o s w → Remembers o s l → Ran s ps t → (h : Ready o s ps w) → Story o s ps w l h
story o s t [] w l f old r h = tt
story o s t (p ∷ ps) w l f old (r, rs) h = more (plays o (found p.report) s p.event p.digests w h.0 f) (λ g. story o (next s p) t ps _ (longer l g.run).1 g.stands (remembers_next o (found p.report) s p.event p.digests w h.0 f l old g.run) rs h.1)
  where
    more : (g : Goes o (next s p) w (after o (found p.report) s p.event p.digests w h.0)) → ((g : Goes o (next s p) w (after o (found p.report) s p.event p.digests w h.0)) → Story o (next s p) ps (after o (found p.report) s p.event p.digests w h.0) (longer l g.run).1 h.1) → Story o s (p ∷ ps) w l h
    more g rest = (subst (λ z. RanClaim o p.event z l) (sym r) (ran_claimed o (found p.report) s p.event p.digests w h.0 f l old), (g, rest g))

pub fleet_story : FleetStory
fleet_story o first bad m j s t ps n a r h = story o s t ps made here (new_stands o first bad m j s n a) (record { was = λ x k. absurd (Memᴰ.not-nil (subst (λ xs. Memᴰ x xs) n.shown_is k)); known = λ u k. absurd (Memᴰ.not-nil k); named = λ i short. subst (λ d. All (λ q. IsDrawn o q.«data») d.questions) (sym (n.seats_are.each i _ (omega (arith, n.seats_are.long)))) tt }) r h
