-- What a judge keeps, and what each word does to it.
use Rattle.std.specs.Prelude.{ℕ, Bool, true, false, cond, ◌&&◌, List, [], ◌∷◌, length, take, is_some, Some, None, Option, Ok, Err, Result, ◌==◌, nat_eq, nat_lt}
use Rattle.std.specs.List.{remove}
use Rattle.device.specs.declared.digests.Data.{Data}
use Rattle.device.specs.declared.digests.Digest.{Digest}
use Rattle.device.specs.declared.refusals.Refusal.{Refusal}
use Rattle.device.specs.declared.refusals.Refusal.TheVariants.{Malformed, UnknownChip, NoQuestion, BadList, BadSignature, NoDraws}
use Rattle.device.specs.declared.registers.Register.{Register}
use Rattle.device.specs.Rows.{same_row}
use Rattle.device.specs.Things.{same_data}
use Rattle.verifier.specs.declared.judges.Fault.{Fault}
use Rattle.verifier.specs.declared.judges.Fault.TheVariants.{Refused, NoMemory}
use Rattle.verifier.specs.declared.judges.List as list
use Rattle.verifier.specs.declared.judges.Question.{Question}
use Rattle.verifier.specs.declared.judges.Reply.{Reply}
use Rattle.verifier.specs.declared.judges.Word.{Word}
use Rattle.verifier.specs.declared.judges.Word.TheVariants as word
use Rattle.verifier.specs.declared.judges.Word.TheVariants.{Ask, Good, Chip, Ticks, Answer}
use Rattle.verifier.specs.declared.judges.Said.{Said}
use Rattle.verifier.specs.declared.judges.Said.TheVariants.{Done, Asks, Accepted}
use Rattle.verifier.specs.Ages.{aged}
use Rattle.verifier.specs.Rows.{gathered, flags}
use Rattle.verifier.specs.Searches.{some, seek, place, is_digest, has_number, asks}

-- what contracts see of a judge: what it keeps, without its memory; all lists have the newest first
pub record Seat : Type 0 where
  pub first : Digest
  pub chips : List ℕ
  pub lists : List list.List
  pub good : Option (List Digest)
  pub questions : List Question

abbrev pub new_seat : Digest → Seat
new_seat d = record { first = d; chips = []; lists = []; good = None; questions = [] }

abbrev pub with_chips : List ℕ → Seat → Seat
with_chips cs s = record { first = s.first; chips = cs; lists = s.lists; good = s.good; questions = s.questions }

abbrev pub with_lists : List list.List → Seat → Seat
with_lists ls s = record { first = s.first; chips = s.chips; lists = ls; good = s.good; questions = s.questions }

abbrev pub with_good : List Digest → Seat → Seat
with_good ds s = record { first = s.first; chips = s.chips; lists = s.lists; good = Some ds; questions = s.questions }

abbrev pub with_questions : List Question → Seat → Seat
with_questions qs s = record { first = s.first; chips = s.chips; lists = s.lists; good = s.good; questions = qs }

-- the office's list; nothing is on it before it was given
abbrev pub listed : Option (List Digest) → List Digest
listed None = []
listed (Some ds) = ds

abbrev pub on_list : Option (List Digest) → Digest → Bool
on_list good d = some (is_digest d) (listed good)

-- ---- what is said

-- whether memory was found
abbrev pub found : Result Said Fault → Bool
found (Ok x) = true
found (Err (Refused k)) = true
found (Err NoMemory) = false

-- a refusal changes nothing
abbrev pub refused : Seat → Refusal → Seat × Result Said Fault
refused s k = (s, Err (Refused k))

-- something new is kept, where memory is found
abbrev pub kept : Bool → Seat → Seat → Said → Seat × Result Said Fault
kept m old new said = cond m (new, Ok said) (old, Err NoMemory)

-- ---- each word; m: whether memory is found

abbrev pub chip_of : Bool → Seat → ℕ → Seat × Result Said Fault
chip_of m s a = cond (nat_lt (length s.chips) 64) (cond (some (nat_eq a) s.chips) (refused s BadList) (kept m s (with_chips (a ∷ s.chips) s) Done)) (refused s BadList)

-- the digests begin with this one
abbrev pub begins : Digest → List Digest → Bool
begins d [] = false
begins d (e ∷ es) = is_digest d e

abbrev pub list_by : Bool → Seat → ℕ → Option Register → Seat × Result Said Fault
list_by m s n None = refused s BadList
list_by m s n (Some r) = kept m s (with_lists (record { number = n; row = r } ∷ s.lists) s) Done

abbrev pub list_of : Bool → Seat → ℕ → List Digest → Seat × Result Said Fault
list_of m s n ds = cond (begins s.first ds) (cond (nat_lt (length s.lists) 256) (cond (is_some (seek (has_number n) s.lists)) (refused s BadList) (list_by m s n (gathered ds))) (refused s BadList)) (refused s BadList)

abbrev pub good_of : Bool → Seat → List Digest → Seat × Result Said Fault
good_of m s ds = cond (nat_lt 1024 (length ds)) (refused s BadList) (cond (is_some s.good) (refused s BadList) (kept m s (with_good ds s) Done))

abbrev pub ticks_of : Seat → ℕ → Seat × Result Said Fault
ticks_of s n = (with_questions (aged n s.questions) s, Ok Done)

abbrev pub new_question : ℕ → Data → Question
new_question a d = record { chip = a; «data» = d; left = 60 }

-- of more than 64 questions the oldest are put out
abbrev pub ask_by : Bool → Seat → ℕ → Option Data → Seat × Result Said Fault
ask_by m s a None = refused s NoDraws
ask_by m s a (Some d) = kept m s (with_questions (take 64 (new_question a d ∷ s.questions)) s) (Asks a d)

abbrev pub ask_of : Bool → Seat → ℕ → Option Data → Seat × Result Said Fault
ask_of m s a draw = cond (some (nat_eq a) s.chips) (ask_by m s a draw) (refused s UnknownChip)

-- what was signed is just this chip, this data and this row
abbrev pub signs : Reply → Register → Bool
signs p r = p.signature.chip == p.chip && same_data p.signature.«data» p.«data» && same_row p.signature.register r

abbrev pub answer_by : Seat → Reply → ℕ → Option list.List → Seat × Result Said Fault
answer_by s p k None = refused s BadList
answer_by s p k (Some l) = cond (signs p l.row) (with_questions (remove s.questions k) s, Ok (Accepted (record { list = l.number; row = l.row; flags = flags (listed s.good) l.row }))) (refused s BadSignature)

abbrev pub answer_at : Seat → Reply → Option ℕ → Seat × Result Said Fault
answer_at s p None = refused s NoQuestion
answer_at s p (Some k) = answer_by s p k (seek (has_number p.list) s.lists)

-- the chip, then the question, then the list, then the signature
abbrev pub answer_of : Seat → Reply → Seat × Result Said Fault
answer_of s p = cond (some (nat_eq p.chip) s.chips) (answer_at s p (place (asks p.chip p.«data») 0 s.questions)) (refused s UnknownChip)

-- ---- the two entrances

-- ds: the digests that come beside the word
abbrev pub office_of : Bool → Seat → Word → List Digest → Option Data → Seat × Result Said Fault
office_of m s (Ask a) ds draw = ask_of m s a draw
office_of m s (word.List n) ds draw = list_of m s n ds
office_of m s Good ds draw = good_of m s ds
office_of m s (Chip a) ds draw = chip_of m s a
office_of m s (Ticks n) ds draw = ticks_of s n
office_of m s (Answer p) ds draw = answer_of s p

-- from the net only answers are taken
abbrev pub net_of : Seat → Word → Seat × Result Said Fault
net_of s (Ask a) = refused s Malformed
net_of s (word.List n) = refused s Malformed
net_of s Good = refused s Malformed
net_of s (Chip a) = refused s Malformed
net_of s (Ticks n) = refused s Malformed
net_of s (Answer p) = answer_of s p
