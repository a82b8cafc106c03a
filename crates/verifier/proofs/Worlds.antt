-- Each word is the steps that it says, of every world for which the judge stands.
use Rattle.std.proofs.Common.{◌≡◌, ℕ, suc, ◌-◌, ◌<◌, Bool, true, false, cond, ◌&&◌, T, eqb, ltb, List, [], ◌∷◌, ◌++◌, map, reverse, length, get_or, take, drop, is_some, Some, None, Option, Ok, Result, sym, refl, ap, ◌∙◌, subst, arith, eqb→eq, drop-cons}
use mathlib.Core.List.{reverse-cons, Memᴰ}
use Rattle.std.specs.List.{remove}
use Rattle.std.proofs.lemmas.List.{map-append, take-append-drop, append-nil, take-map, length-map}
use Rattle.std.proofs.lemmas.Bool.{and_parts}
use Rattle.model.specs.Term as term
use Rattle.model.specs.Term.{Derives}
use Rattle.model.specs.World as world
use Rattle.model.specs.World.{Programs, World}
use Rattle.model.specs.Effect as effect
use Rattle.model.specs.Effect.{on_judge}
use Rattle.model.specs.Step as step
use Rattle.model.specs.Step.{Step}
use Rattle.model.specs.Run as run
use Rattle.model.specs.Run.{Run}
use Rattle.model.proofs.Places.{at_same}
use Rattle.device.specs.declared.digests.Data.{Data}
use Rattle.device.specs.declared.digests.Digest.{Digest}
use Rattle.device.specs.declared.refusals.Refusal.{Refusal}
use Rattle.device.specs.declared.refusals.Refusal.TheVariants.{UnknownChip, NoQuestion, BadList, BadSignature, NoDraws}
use Rattle.device.specs.declared.registers.Register.{Register}
use Rattle.device.specs.Rows.{words, row, empty_register}
use Rattle.device.specs.Things.{same_data}
use Rattle.device.proofs.Rows.{same_digests_decides}
use Rattle.device.proofs.Things.{same_data_decides}
use Rattle.verifier.specs.Rows.{gathered, flags}
use Rattle.verifier.specs.Searches.{some, seek, place, has_number, asks}
use Rattle.verifier.specs.Seats.{Seat, with_chips, with_lists, with_good, with_questions, new_seat, new_question, listed, refused, kept, begins, chip_of, list_by, list_of, good_of, ticks_of, ask_by, ask_of, signs, answer_by, answer_at, answer_of, office_of, net_of}
use Rattle.verifier.specs.Worlds.{Begins, question_of, questions_of, Stands, latest, TakesChip, TakesList, Stays, PutsOut, asked, Asking, Accepts, Falls, OfficeSteps, NetSteps}
use Rattle.verifier.specs.declared.judges.Acceptance.{Acceptance}
use Rattle.verifier.specs.declared.judges.Fault.{Fault}
use Rattle.verifier.specs.declared.judges.List as list
use Rattle.verifier.specs.declared.judges.Question.{Question}
use Rattle.verifier.specs.declared.judges.Reply.{Reply}
use Rattle.verifier.specs.declared.judges.Word.{Word}
use Rattle.verifier.specs.declared.judges.Word.TheVariants as word
use Rattle.verifier.specs.declared.judges.Word.TheVariants.{Ask, Good, Chip, Ticks, Answer}
use Rattle.verifier.specs.declared.judges.Said.{Said}
use Rattle.verifier.specs.declared.judges.Said.TheVariants.{Done, Asks, Accepted}
use Rattle.verifier.proofs.Kept.{puts_out, kept_aged, kept_first}
use Rattle.verifier.proofs.Searches.{some_member, seek_member, place_below, place_passes}
use Rattle.verifier.proofs.Tests.{is_digest_decides}
use Rattle.verifier.proofs.Rows.{filled_words}

-- a judge that was changed: the seat stands for it
pub stands : (drawn : List ℕ → ℕ) (s : Seat) (v : World) (j : ℕ) (d : world.Judge) → v.judges j ≡ d → s.chips ≡ d.chips → map (λ l. words l.row) s.lists ≡ d.lists → questions_of drawn j s.questions ≡ d.questions → Stands drawn s v j
stands drawn s v j d e c l q = record { chips_are = c ∙ sym (ap (λ x. x.chips) e); lists_are = l ∙ sym (ap (λ x. x.lists) e); questions_are = q ∙ sym (ap (λ x. x.questions) e) }

pub begins_new : (d : Digest) (s : Seat) → s ≡ new_seat d → Begins s
begins_new d s e = subst (λ t. Begins t) (sym e) (λ drawn w j is. stands drawn (new_seat d) w j effect.new_judge is refl refl refl)

falls_at : (s : Seat) → Falls s (new_seat s.first)
falls_at s = record { falls = λ pr drawn w j h. (step.falls w j, stands drawn (new_seat s.first) _ j effect.new_judge (at_same j _ w.judges) refl refl refl) }

pub falls : (s r : Seat) → r ≡ new_seat s.first → Falls s r
falls s r e = subst (λ t. Falls s t) (sym e) (falls_at s)

-- ---- chips

chip_kept : (s : Seat) (a : ℕ) (m : Bool) → TakesChip s a (kept m s (with_chips (a ∷ s.chips) s) Done)
chip_kept s a true = record { takes = λ pr drawn w j h _. (step.takes_chip w j a, stands drawn (with_chips (a ∷ s.chips) s) _ j _ (at_same j _ w.judges) (ap (λ l. a ∷ l) h.chips_are) h.lists_are h.questions_are) }
chip_kept s a false = record { takes = λ pr drawn w j h e. absurd (grind arith) }

chip_refused : (s : Seat) (a : ℕ) (k : Refusal) → TakesChip s a (refused s k)
chip_refused s a k = record { takes = λ pr drawn w j h e. absurd (grind arith) }

chip_at : (s : Seat) (a : ℕ) (m b₁ b₂ : Bool) → TakesChip s a (cond b₁ (cond b₂ (refused s BadList) (kept m s (with_chips (a ∷ s.chips) s) Done)) (refused s BadList))
chip_at s a m true true = chip_refused s a BadList
chip_at s a m true false = chip_kept s a m
chip_at s a m false b₂ = chip_refused s a BadList

pub takes_chip : (m : Bool) (s : Seat) (a : ℕ) → TakesChip s a (chip_of m s a)
takes_chip m s a = chip_at s a m (ltb (length s.chips) 64) (some (eqb a) s.chips)

-- ---- lists

list_refused : (s : Seat) (ds : List Digest) (k : Refusal) → TakesList s ds (refused s k)
list_refused s ds k = record { begins = λ e. absurd (grind arith); takes = λ pr drawn w j f h e. absurd (grind arith) }

latest_begins : (s : Seat) (ds : List Digest) → begins s.first ds ≡ true → latest ds ≡ latest (drop 1 ds) ++ (s.first.bytes ∷ [])
latest_begins s [] e = absurd (grind arith)
latest_begins s (d ∷ ds) e = ap (map (λ x. x.bytes)) (reverse-cons d ds) ∙ map-append (λ x. x.bytes) (reverse ds) (d ∷ []) ∙ ap (λ b. latest ds ++ (b ∷ [])) (sym ((is_digest_decides s.first d).0 e))

list_kept : (s : Seat) (n : ℕ) (ds : List Digest) (m : Bool) (r : Register) → begins s.first ds ≡ true → gathered ds ≡ Some r → TakesList s ds (kept m s (with_lists (record { number = n; row = r } ∷ s.lists) s) Done)
list_kept s n ds true r b g =
    let is : words r ≡ latest ds = filled_words empty_register ds r g ∙ append-nil (latest ds) in
    record {
      begins = λ _. latest_begins s ds b;
      takes = λ pr drawn w j f h _. (subst (λ row. Step pr w (on_judge j (effect.with_list row) w)) (sym (latest_begins s ds b ∙ ap (λ x. latest (drop 1 ds) ++ (x ∷ [])) (sym f))) (step.takes_list w j (latest (drop 1 ds))), stands drawn (with_lists (record { number = n; row = r } ∷ s.lists) s) _ j _ (at_same j _ w.judges) h.chips_are (λ i. is i ∷ h.lists_are i) h.questions_are);
    }
list_kept s n ds false r b g = record { begins = λ e. absurd (grind arith); takes = λ pr drawn w j f h e. absurd (grind arith) }

list_row : (s : Seat) (n : ℕ) (ds : List Digest) (m : Bool) (o : Option Register) → begins s.first ds ≡ true → gathered ds ≡ o → TakesList s ds (list_by m s n o)
list_row s n ds m None b g = list_refused s ds BadList
list_row s n ds m (Some r) b g = list_kept s n ds m r b g

list_at : (s : Seat) (n : ℕ) (ds : List Digest) (m b₁ b₂ b₃ : Bool) → begins s.first ds ≡ b₁ → TakesList s ds (cond b₁ (cond b₂ (cond b₃ (refused s BadList) (list_by m s n (gathered ds))) (refused s BadList)) (refused s BadList))
list_at s n ds m true true true e = list_refused s ds BadList
list_at s n ds m true true false e = list_row s n ds m (gathered ds) e refl
list_at s n ds m true false b₃ e = list_refused s ds BadList
list_at s n ds m false b₂ b₃ e = list_refused s ds BadList

pub takes_list : (m : Bool) (s : Seat) (n : ℕ) (ds : List Digest) → TakesList s ds (list_of m s n ds)
takes_list m s n ds = list_at s n ds m (begins s.first ds) (ltb (length s.lists) 256) (is_some (seek (has_number n) s.lists)) refl

-- ---- the office's list

good_at : (s : Seat) (ds : List Digest) (m b₁ b₂ : Bool) → Stays s (cond b₁ (refused s BadList) (cond b₂ (refused s BadList) (kept m s (with_good ds s) Done)))
good_at s ds m true b₂ = record { stays = λ drawn w j h. h }
good_at s ds m false true = record { stays = λ drawn w j h. h }
good_at s ds true false false = record { stays = λ drawn w j h. record { chips_are = h.chips_are; lists_are = h.lists_are; questions_are = h.questions_are } }
good_at s ds false false false = record { stays = λ drawn w j h. h }

pub stays : (m : Bool) (s : Seat) (ds : List Digest) → Stays s (good_of m s ds)
stays m s ds = good_at s ds m (ltb 1024 (length ds)) (is_some s.good)

-- ---- time

pub ages : (s : Seat) (n : ℕ) → PutsOut s n (ticks_of s n)
ages s n = record { puts_out = λ pr drawn w j h. (puts_out pr w j [] (kept_aged (question_of drawn j) n (λ q. refl) s.questions) (sym h.questions_are), stands drawn _ _ j _ (at_same j _ w.judges) h.chips_are h.lists_are refl) }

-- ---- questions

one_before : {pr : Programs} {k : ℕ} {w u v : World} → Step pr w u → Run pr k u v → Run pr (suc k) w v
one_before t run.here = run.onward run.here t
one_before t (run.onward r l) = run.onward (one_before t r) l

ask_refused : (s : Seat) (a : ℕ) (draw : Option Data) (k : Refusal) → Asking s a draw (refused s k)
ask_refused s a draw k = record { asks = λ pr drawn w j b d h e n. absurd (grind arith); tells = λ b d e. absurd (grind arith) }

ask_kept : (s : Seat) (a : ℕ) (d : Data) (m : Bool) → some (eqb a) s.chips ≡ true → Asking s a (Some d) (kept m s (with_questions (take 64 (new_question a d ∷ s.questions)) s) (Asks a d))
ask_kept s a d false known = record { asks = λ pr drawn w j b d h e n. absurd (grind arith); tells = λ b d e. absurd (grind arith) }
ask_kept s a d true known = record { asks = λ pr drawn w j b t h e fresh. by pr drawn w j h (let is : d ≡ t = cc in ap (λ x. drawn x.bytes) is ∙ fresh); tells = λ b t e. (let is : a ≡ b = cc in sym is, let is : d ≡ t = cc in ap Some is) }
  where
    by : (pr : Programs) (drawn : List ℕ → ℕ) (w : World) (j : ℕ) → Stands drawn s w j → drawn d.bytes ≡ w.next → Run pr (suc (suc (length s.questions) - 64)) w (on_judge j (effect.with_questions (asked j a w)) (effect.asking (effect.question j a w) w)) × Stands drawn (with_questions (take 64 (new_question a d ∷ s.questions)) s) (on_judge j (effect.with_questions (asked j a w)) (effect.asking (effect.question j a w) w)) j
    by pr drawn w j h fresh =
        let u : World = effect.asking (effect.question j a w) w in
        let changed : (effect.asking (effect.question j a w) w).judges j ≡ effect.with_questions (effect.question j a w ∷ (w.judges j).questions) (w.judges j) = at_same j _ w.judges in
        let long : length (w.judges j).questions ≡ length s.questions = sym (ap length h.questions_are) ∙ length-map s.questions (question_of drawn j) in
        let after : Run pr (suc (length (w.judges j).questions) - 64) (effect.asking (effect.question j a w) w) (on_judge j (effect.with_questions (asked j a w)) (effect.asking (effect.question j a w) w)) = puts_out pr (effect.asking (effect.question j a w) w) j [] (kept_first 64 (effect.question j a w ∷ (w.judges j).questions)) (ap (λ x. x.questions) changed) in
        let open_now : questions_of drawn j (new_question a d ∷ s.questions) ≡ effect.question j a w ∷ (w.judges j).questions = λ i. record { judge = j; chip = a; nonce = fresh i } ∷ h.questions_are i in
        (one_before (step.asks w j a (subst (λ l. Memᴰ a l) h.chips_are (some_member a s.chips known))) (subst (λ n. Run pr (suc n - 64) (effect.asking (effect.question j a w) w) (on_judge j (effect.with_questions (asked j a w)) (effect.asking (effect.question j a w) w))) long after), stands drawn (with_questions (take 64 (new_question a d ∷ s.questions)) s) _ j (effect.with_questions (asked j a w) (w.judges j)) (at_same j _ (effect.asking (effect.question j a w) w).judges ∙ ap (effect.with_questions (asked j a w)) changed) h.chips_are h.lists_are (sym (take-map (question_of drawn j) 64 (new_question a d ∷ s.questions)) ∙ ap (take 64) open_now))

ask_drawn : (s : Seat) (a : ℕ) (draw : Option Data) (m : Bool) → some (eqb a) s.chips ≡ true → Asking s a draw (ask_by m s a draw)
ask_drawn s a None m known = ask_refused s a None NoDraws
ask_drawn s a (Some d) m known = ask_kept s a d m known

ask_at : (s : Seat) (a : ℕ) (draw : Option Data) (m b : Bool) → some (eqb a) s.chips ≡ b → Asking s a draw (cond b (ask_by m s a draw) (refused s UnknownChip))
ask_at s a draw m true e = ask_drawn s a draw m e
ask_at s a draw m false e = ask_refused s a draw UnknownChip

pub asking : (m : Bool) (s : Seat) (a : ℕ) (draw : Option Data) → Asking s a draw (ask_of m s a draw)
asking m s a draw = ask_at s a draw m (some (eqb a) s.chips) refl

-- ---- answers

answer_refused : (s : Seat) (p : Reply) (k : Refusal) → Accepts s p (refused s k)
answer_refused s p k = record { accepts = λ pr drawn w j x h e g. absurd (grind arith); tells = λ x e. absurd (grind arith) }

-- one of the list, with those before it and those after it
split_at : {A : Type 0} (xs : List A) (k : ℕ) (d : A) → k < length xs → xs ≡ take k xs ++ (get_or xs k d ∷ drop (suc k) xs)
split_at xs k d h = sym (take-append-drop k xs) ∙ ap (λ l. take k xs ++ l) (drop-cons xs k d h)

same_number : (a b : ℕ) → eqb a b ≡ true → a ≡ b
same_number a b e = eqb→eq a b (subst (λ b. T b) (sym e) tt)

-- what is said where the list fits
abbrev accepted : Seat → list.List → Said
accepted s l = Accepted (record { list = l.number; row = l.row; flags = flags (listed s.good) l.row })

answer_fits : (s : Seat) (p : Reply) (k : ℕ) (l : list.List) → some (eqb p.chip) s.chips ≡ true → place (asks p.chip p.«data») 0 s.questions ≡ Some k → seek (has_number p.list) s.lists ≡ Some l → signs p l.row ≡ true → Accepts s p (with_questions (remove s.questions k) s, Ok (accepted s l))
answer_fits s p k l known is_open given fits =
    record {
      accepts = λ pr drawn w j x h e g. subst (λ r. Step pr w (after drawn w j r) × Stands drawn (with_questions (remove s.questions k) s) (after drawn w j r) j) (ap (λ y. y.row) (is x e)) (moves pr drawn w j h g);
      tells = λ x e. subst (λ y. (y.list ≡ p.list) × Memᴰ (record { number = y.list; row = y.row }) s.lists × (words y.row ≡ words p.signature.register) × (y.flags ≡ flags (listed s.good) y.row)) (is x e) (sym (same_number _ _ (seek_member _ _ l given).1), (seek_member _ _ l given).0, sym rows, refl);
    }
  where
    is : (x : Acceptance) → ◌≡◌ {A = Result Said Fault} (Ok (accepted s l)) (Ok (Accepted x)) → record { list = l.number; row = l.row; flags = flags (listed s.good) l.row } ≡ x
    is x e = cc

    rows : words p.signature.register ≡ words l.row
    rows = ap (λ ds. map (λ d. d.bytes) (reverse ds)) ((same_digests_decides (row p.signature.register) (row l.row)).0 (and_parts (eqb p.signature.chip p.chip && same_data p.signature.«data» p.«data») _ fits).1)

    after : (drawn : List ℕ → ℕ) (w : World) (j : ℕ) → Register → World
    after drawn w j r = effect.having_accepted (effect.acceptance (question_of drawn j (new_question p.chip p.«data»)) (words r)) (on_judge j (effect.with_questions (questions_of drawn j (remove s.questions k))) w)

    moves : (pr : Programs) (drawn : List ℕ → ℕ) (w : World) (j : ℕ) → Stands drawn s w j → Derives w.heard (term.Sign p.chip (effect.statement (effect.honest (drawn p.«data».bytes)) (words p.signature.register))) → Step pr w (after drawn w j l.row) × Stands drawn (with_questions (remove s.questions k) s) (after drawn w j l.row) j
    moves pr drawn w j h g =
        let f : Question → world.Question = question_of drawn j in
        let q : Question = get_or s.questions k (new_question p.chip p.«data») in
        let here : k < length s.questions = place_below _ (new_question p.chip p.«data») s.questions k is_open in
        let fit = and_parts (eqb p.chip q.chip) (same_data p.«data» q.«data») (place_passes (asks p.chip p.«data») s.questions k (new_question p.chip p.«data») is_open) in
        let chip_is : q.chip ≡ p.chip = sym (same_number p.chip q.chip fit.0) in
        let data_is : q.«data» ≡ p.«data» = sym ((same_data_decides p.«data» q.«data»).0 fit.1) in
        let is : f q ≡ f (new_question p.chip p.«data») = λ i. record { judge = j; chip = chip_is i; nonce = drawn (data_is i).bytes } in
        let split : (w.judges j).questions ≡ map f (take k s.questions) ++ (f (new_question p.chip p.«data») ∷ map f (drop (suc k) s.questions)) = sym h.questions_are ∙ ap (map f) (split_at s.questions k (new_question p.chip p.«data») here) ∙ map-append f (take k s.questions) (q ∷ drop (suc k) s.questions) ∙ ap (λ x. map f (take k s.questions) ++ (x ∷ map f (drop (suc k) s.questions))) is in
        let chip_known : Memᴰ p.chip (w.judges j).chips = subst (λ xs. Memᴰ p.chip xs) h.chips_are (some_member p.chip s.chips known) in
        let list_given : Memᴰ (words l.row) (w.judges j).lists = subst (λ xs. Memᴰ (words l.row) xs) h.lists_are (mathlib.Core.List.Memᴰ.map (λ x. words x.row) (seek_member _ _ l given).0) in
        let signed : Derives w.heard (term.Sign p.chip (effect.statement (effect.honest (drawn p.«data».bytes)) (words l.row))) = subst (λ r. Derives w.heard (term.Sign p.chip (effect.statement (effect.honest (drawn p.«data».bytes)) r))) rows g in
        (subst (λ qs. Step pr w (effect.having_accepted (effect.acceptance (f (new_question p.chip p.«data»)) (words l.row)) (on_judge j (effect.with_questions qs) w))) (sym (map-append f (take k s.questions) (drop (suc k) s.questions))) (step.accepts w j (map f (take k s.questions)) (map f (drop (suc k) s.questions)) (f (new_question p.chip p.«data»)) (words l.row) split chip_known list_given signed), stands drawn (with_questions (remove s.questions k) s) _ j _ (at_same j _ w.judges) h.chips_are h.lists_are refl)

answer_sign : (s : Seat) (p : Reply) (k : ℕ) (l : list.List) (b : Bool) → some (eqb p.chip) s.chips ≡ true → place (asks p.chip p.«data») 0 s.questions ≡ Some k → seek (has_number p.list) s.lists ≡ Some l → signs p l.row ≡ b → Accepts s p (cond b (with_questions (remove s.questions k) s, Ok (accepted s l)) (refused s BadSignature))
answer_sign s p k l true known is_open given fits = answer_fits s p k l known is_open given fits
answer_sign s p k l false known is_open given fits = answer_refused s p BadSignature

answer_list : (s : Seat) (p : Reply) (k : ℕ) (o : Option list.List) → some (eqb p.chip) s.chips ≡ true → place (asks p.chip p.«data») 0 s.questions ≡ Some k → seek (has_number p.list) s.lists ≡ o → Accepts s p (answer_by s p k o)
answer_list s p k None known is_open given = answer_refused s p BadList
answer_list s p k (Some l) known is_open given = answer_sign s p k l (signs p l.row) known is_open given refl

answer_place : (s : Seat) (p : Reply) (o : Option ℕ) → some (eqb p.chip) s.chips ≡ true → place (asks p.chip p.«data») 0 s.questions ≡ o → Accepts s p (answer_at s p o)
answer_place s p None known is_open = answer_refused s p NoQuestion
answer_place s p (Some k) known is_open = answer_list s p k (seek (has_number p.list) s.lists) known is_open refl

answer_chip : (s : Seat) (p : Reply) (b : Bool) → some (eqb p.chip) s.chips ≡ b → Accepts s p (cond b (answer_at s p (place (asks p.chip p.«data») 0 s.questions)) (refused s UnknownChip))
answer_chip s p true e = answer_place s p (place (asks p.chip p.«data») 0 s.questions) e refl
answer_chip s p false e = answer_refused s p UnknownChip

pub accepts : (s : Seat) (p : Reply) → Accepts s p (answer_of s p)
accepts s p = answer_chip s p (some (eqb p.chip) s.chips) refl

-- ---- every word

office_at : (m : Bool) (s : Seat) (o : Word) (ds : List Digest) (draw : Option Data) → OfficeSteps s o ds draw (office_of m s o ds draw)
office_at m s (Ask a) ds draw = asking m s a draw
office_at m s (word.List n) ds draw = takes_list m s n ds
office_at m s Good ds draw = stays m s ds
office_at m s (Chip a) ds draw = takes_chip m s a
office_at m s (Ticks n) ds draw = ages s n
office_at m s (Answer p) ds draw = accepts s p

pub office_steps : (m : Bool) (s : Seat) (o : Word) (ds : List Digest) (draw : Option Data) (r : Seat × Result Said Fault) → r ≡ office_of m s o ds draw → OfficeSteps s o ds draw r
office_steps m s o ds draw r e = subst (λ q. OfficeSteps s o ds draw q) (sym e) (office_at m s o ds draw)

net_at : (s : Seat) (o : Word) → NetSteps s o (net_of s o)
net_at s (Ask a) = refl
net_at s (word.List n) = refl
net_at s Good = refl
net_at s (Chip a) = refl
net_at s (Ticks n) = refl
net_at s (Answer p) = accepts s p

pub net_steps : (s : Seat) (o : Word) (r : Seat × Result Said Fault) → r ≡ net_of s o → NetSteps s o r
net_steps s o r e = subst (λ q. NetSteps s o q) (sym e) (net_at s o)
