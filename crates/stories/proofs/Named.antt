-- Every question that is open asks with something that was drawn.
use Rattle.std.proofs.Common.{◌≡◌, ℕ, zero, suc, ◌+◌, ◌<◌, Bool, true, false, cond, eqb, ltb, List, [], ◌∷◌, ◌++◌, length, get_or, take, drop, is_some, Some, None, Option, Ok, Err, Result, sym, refl, ap, subst, inl, inr, arith}
use Rattle.std.proofs.lemmas.Bool.{and_parts}
use Rattle.device.specs.declared.digests.Data.{Data}
use Rattle.device.specs.declared.digests.Digest.{Digest}
use Rattle.device.specs.declared.refusals.Refusal.TheVariants as refusal
use Rattle.device.specs.declared.registers.Register.{Register}
use Rattle.device.specs.Things.{same_data}
use Rattle.device.proofs.Things.{same_data_decides}
use Rattle.model.specs.World.{World}
use Rattle.verifier.specs.declared.judges.Fault.{Fault as JudgeFault}
use Rattle.verifier.specs.declared.judges.List as list
use Rattle.verifier.specs.declared.judges.Question.{Question}
use Rattle.verifier.specs.declared.judges.Reply.{Reply}
use Rattle.verifier.specs.declared.judges.Said.{Said}
use Rattle.verifier.specs.declared.judges.Said.TheVariants as said
use Rattle.verifier.specs.declared.judges.Word.{Word}
use Rattle.verifier.specs.declared.judges.Word.TheVariants as word
use Rattle.verifier.specs.Ages.{older, aged}
use Rattle.verifier.specs.Searches.{some, seek, place, has_number, asks}
use Rattle.verifier.specs.Rows.{gathered}
use Rattle.verifier.specs.Seats.{Seat, new_seat, new_question, begins, signs, list_by, ask_by, answer_by, answer_at, answer_of, office_of, net_of, refused}
use Rattle.fleet.specs.declared.fleets.Event.{Event}
use Rattle.fleet.specs.declared.fleets.Event.TheVariants.{At, Office, Net, Fall, Write, Wipe}
use Rattle.fleet.specs.declared.fleets.Report.{Report}
use Rattle.fleet.specs.declared.fleets.Fault.{Fault}
use Rattle.fleet.specs.declared.fleets.Fault.TheVariants.{Nobody, NoMemory}
use Rattle.fleet.specs.declared.fleets.Report.TheVariants.{Done}
use Rattle.fleet.specs.Runs.{Allowed}
use Rattle.fleet.specs.Sights.{Sight, seat_at, with_seat, judged, played}
use Rattle.fleet.specs.Worlds.{Setting, WordAllowed}
use Rattle.stories.proofs.Blind.{Blind, act_blind}
use Rattle.fleet.proofs.Plays.{in_range}
use Rattle.fleet.proofs.Standing.{set_each}

-- ---- of all in a list

abbrev pub All : {A : Type 0} → (A → Type 0) → List A → Type 0
All P [] = Unit {0}
All P (x ∷ xs) = P x × All P xs

all_append : {A : Type 0} (P : A → Type 0) (xs ys : List A) → All P xs → All P ys → All P (xs ++ ys)
all_append P [] ys f g = g
all_append P (x ∷ xs) ys f g = (f.0, all_append P xs ys f.1 g)

all_take : {A : Type 0} (P : A → Type 0) (n : ℕ) (xs : List A) → All P xs → All P (take n xs)
all_take P zero [] f = tt
all_take P zero (x ∷ xs) f = tt
all_take P (suc n) [] f = tt
all_take P (suc n) (x ∷ xs) f = (f.0, all_take P n xs f.1)

all_drop : {A : Type 0} (P : A → Type 0) (n : ℕ) (xs : List A) → All P xs → All P (drop n xs)
all_drop P zero [] f = tt
all_drop P zero (x ∷ xs) f = f
all_drop P (suc n) [] f = tt
all_drop P (suc n) (x ∷ xs) f = all_drop P n xs f.1

-- ---- one judge

-- the bytes are those of a nonce
abbrev pub IsDrawn : Setting → Data → Type 0
IsDrawn o d = (n : ℕ) × (o.names d.bytes ≡ Some n)

abbrev Drawn : Setting → Seat → Type 0
Drawn o d = All (λ q. IsDrawn o q.«data») d.questions

drawn_aged : (o : Setting) (n : ℕ) (qs : List Question) → All (λ q. IsDrawn o q.«data») qs → All (λ q. IsDrawn o q.«data») (aged n qs)
unfolding aged
drawn_aged o n [] f = tt
drawn_aged o n (q ∷ qs) f = by (ltb n q.left) (drawn_aged o n qs f.1)
  where
    by : (b : Bool) → All (λ q. IsDrawn o q.«data») (aged n qs) → All (λ q. IsDrawn o q.«data») (cond b (older n q ∷ aged n qs) (aged n qs))
    by true rest = (f.0, rest)
    by false rest = rest

drawn_cond : (o : Setting) (b : Bool) (p q : Seat × Result Said JudgeFault) → Drawn o p.0 → Drawn o q.0 → Drawn o (cond b p q).0
drawn_cond o true p q f g = f
drawn_cond o false p q f g = g

-- the question that an answer names is one that was drawn
pub placed_drawn : (o : Setting) (a : ℕ) (d : Data) (i : ℕ) (qs : List Question) (k : ℕ) → All (λ q. IsDrawn o q.«data») qs → place (asks a d) i qs ≡ Some k → IsDrawn o d
unfolding place
placed_drawn o a d i [] k f e = let contrary : ◌≡◌ {A = ℕ} 0 1 = cc in absurd (omega arith)
placed_drawn o a d i (q ∷ qs) k f e = by (asks a d q) refl e (λ h. placed_drawn o a d (i + 1) qs k f.1 h)
  where
    by : (b : Bool) → asks a d q ≡ b → cond b (Some i) (place (asks a d) (i + 1) qs) ≡ Some k → (place (asks a d) (i + 1) qs ≡ Some k → IsDrawn o d) → IsDrawn o d
    by true is h rest = subst (λ c. IsDrawn o c) (sym ((same_data_decides d q.«data»).0 (and_parts (eqb a q.chip) (same_data d q.«data») is).1)) f.0
    by false is h rest = rest h

module _ (o : Setting) (d : Seat) (f : Drawn o d) where
  drawn_list : (n : ℕ) (r : Option Register) → Drawn o (list_by true d n r).0
  drawn_list n None = f
  drawn_list n (Some r) = f

  drawn_ask : (a : ℕ) (ds : List Digest) (q : Option Data) (w : World) → WordAllowed o (word.Ask a) (office_of true d (word.Ask a) ds q).1 w → Drawn o (office_of true d (word.Ask a) ds q).0
  drawn_ask a ds None w h = drawn_cond o (some (eqb a) d.chips) _ _ f f
  drawn_ask a ds (Some c) w h = by (some (eqb a) d.chips) h
    where
      by : (b : Bool) → WordAllowed o (word.Ask a) (cond b (ask_by true d a (Some c)) (refused d refusal.UnknownChip)).1 w → Drawn o (cond b (ask_by true d a (Some c)) (refused d refusal.UnknownChip)).0
      by true g = all_take (λ q. IsDrawn o q.«data») 64 (new_question a c ∷ d.questions) ((_, g a c refl), f)
      by false g = f

  drawn_answer_by : (p : Reply) (k : ℕ) (l : Option list.List) → Drawn o (answer_by d p k l).0
  drawn_answer_by p k None = f
  drawn_answer_by p k (Some l) = drawn_cond o (signs p l.row) _ _ (all_append _ (take k d.questions) _ (all_take _ k d.questions f) (all_drop _ (suc k) d.questions f)) f

  drawn_answer_at : (p : Reply) (k : Option ℕ) → Drawn o (answer_at d p k).0
  drawn_answer_at p None = f
  drawn_answer_at p (Some k) = drawn_answer_by p k (seek (has_number p.list) d.lists)

  drawn_answer : (p : Reply) → Drawn o (answer_of d p).0
  drawn_answer p = drawn_cond o (some (eqb p.chip) d.chips) _ _ (drawn_answer_at p _) f

  drawn_office : (x : Word) (ds : List Digest) (q : Option Data) (w : World) → WordAllowed o x (office_of true d x ds q).1 w → Drawn o (office_of true d x ds q).0
  drawn_office (word.Ask a) ds q w h = drawn_ask a ds q w h
  drawn_office (word.List n) ds q w h = drawn_cond o (begins d.first ds) _ _ (drawn_cond o (ltb (length d.lists) 256) _ _ (drawn_cond o (is_some (seek (has_number n) d.lists)) _ _ f (drawn_list n (gathered ds))) f) f
  drawn_office word.Good ds q w h = drawn_cond o (ltb 1024 (length ds)) _ _ f (drawn_cond o (is_some d.good) _ _ f f)
  drawn_office (word.Chip a) ds q w h = drawn_cond o (ltb (length d.chips) 64) _ _ (drawn_cond o (some (eqb a) d.chips) _ _ f f) f
  drawn_office (word.Ticks n) ds q w h = drawn_aged o n d.questions f
  drawn_office (word.Answer p) ds q w h = drawn_answer p

  drawn_net : (x : Word) → Drawn o (net_of d x).0
  drawn_net (word.Ask a) = f
  drawn_net (word.List n) = f
  drawn_net word.Good = f
  drawn_net (word.Chip a) = f
  drawn_net (word.Ticks n) = f
  drawn_net (word.Answer p) = drawn_answer p

-- ---- every judge, over every event

abbrev pub Named : Setting → Sight → Type 0
Named o s = (j : ℕ) → j < length s.seats → Drawn o (seat_at s j)

-- the judge at j changed
reseated : (o : Setting) (s : Sight) (j : ℕ) (e : Seat) → j < length s.seats → Named o s → Drawn o e → Named o (with_seat j e s)
reseated o s j e below f g = set_each (λ d _. Drawn o d) (new_seat s.first) s.seats j e below g (λ k _ short. f k short)

judged_named : (o : Setting) (s : Sight) (j : ℕ) (x : Word) (r : Seat × Result Said JudgeFault) → j < length s.seats → Named o s → Drawn o r.0 → Named o (judged j s x r).0
judged_named o s j x (d, Ok y) below f g = reseated o s j d below f g
judged_named o s j x (d, Err k) below f g = reseated o s j d below f g

-- the judges, and the first program that they know
abbrev bench : Sight → List Seat × Digest
bench s = (s.seats, s.first)

unchanged : (o : Setting) (s t : Sight) → bench t ≡ bench s → Named o s → Named o t
unchanged o s t e f = subst (λ b. (j : ℕ) → j < length b.0 → Drawn o (get_or b.0 j (new_seat b.1))) (sym e) f

pub named_next : (o : Setting) (m : Bool) (s : Sight) (e : Event) (ds : List Digest) (w : World) → Allowed o m s e ds w → Named o s → Named o (played m s e ds).0
named_next o m s (At i a) ds w h f = by (act_blind bench (λ _ _ _. refl) (λ _ _. refl) (λ _ _. refl) m s i a _ refl)
  where
    by : Blind bench m s i a (played m s (At i a) ds).0 → Named o (played m s (At i a) ds).0
    by (inl same) = unchanged o s (played m s (At i a) ds).0 same f
    by (inr (_, _, _, _, is)) = unchanged o s (played m s (At i a) ds).0 (ap bench is) f
named_next o m s (Office j x q) ds w h f = by (ltb j (length s.seats)) refl m h
  where
    by : (b : Bool) → ltb j (length s.seats) ≡ b → (m : Bool) → (b ≡ true → m ≡ true → WordAllowed o x (office_of true (seat_at s j) x ds q).1 w) → Named o (cond b (cond m (judged j s x (office_of true (seat_at s j) x ds q)) (s, Err NoMemory)) (s, Err Nobody)).0
    by true e true g = let below = in_range j _ e in judged_named o s j x _ below f (drawn_office o (seat_at s j) (f j below) x ds q w (g refl refl))
    by true e false g = f
    by false e n g = f
named_next o m s (Net j x) ds w h f = by (ltb j (length s.seats)) refl
  where
    by : (b : Bool) → ltb j (length s.seats) ≡ b → Named o (cond b (judged j s x (net_of (seat_at s j) x)) (s, Err Nobody)).0
    by true e = let below = in_range j _ e in judged_named o s j x _ below f (drawn_net o (seat_at s j) (f j below) x)
    by false e = f
named_next o m s (Fall j) ds w h f = by (ltb j (length s.seats)) refl
  where
    by : (b : Bool) → ltb j (length s.seats) ≡ b → Named o (cond {A = Sight × Result Report Fault} b (with_seat j (new_seat (seat_at s j).first) s, Ok Done) (s, Err Nobody)).0
    by true e = reseated o s j (new_seat (seat_at s j).first) (in_range j _ e) f tt
    by false e = f
named_next o true s (Write n g k) ds w h f = f
named_next o false s (Write n g k) ds w h f = f
named_next o m s Wipe ds w h f = f
