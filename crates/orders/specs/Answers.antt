-- Answers of a chip and of the judge: their bytes.
use Rattle.std.specs.Prelude.{ℕ, Bool, true, ◌&&◌, List, [], ◌∷◌, length, is_some, nat_le}
use Rattle.wire.specs.declared.refusals.Refusal.TheVariants.{Malformed}
use Rattle.orders.specs.declared.answers.Answer.{Answer}
use Rattle.orders.specs.declared.answers.Answer.TheVariants.{Done, Signed, Counter, Closed, Opened, Now, Refused, Accepted}
use Rattle.wire.specs.Kinds as kind
use Rattle.wire.specs.Layouts.{Field, Part, Form, Bytes, Number, Counted, bytes, number, counted, any, at_most, refusing}
use Rattle.wire.specs.Refusals.{number_of, refusal_of}
use Rattle.orders.specs.Things.{most_closed, whole_thing, shown_thing}

-- whether each of these bytes is 0 or 1
abbrev pub flags : List ℕ → Bool
flags [] = true
flags (b ∷ bs) = nat_le b 1 && flags bs

-- a judge's list has from one to sixteen digests, and each has a flag
abbrev pub flagged : ℕ → List ℕ → Bool
flagged n bs = (nat_le 1 n && nat_le n 16) && flags bs

-- whatever is wrong with an answer, it is malformed
abbrev pub answer_form : ℕ → List Part → Form
answer_form k ps = refusing Malformed k ps

abbrev pub opened_parts : List Part
opened_parts = counted 2 1 (at_most most_closed) ∷ []

abbrev pub now_parts : List Part
now_parts = number 8 any ∷ bytes 32 ∷ []

abbrev pub refused_parts : List Part
refused_parts = number 1 (λ n. is_some (refusal_of n)) ∷ []

abbrev pub accepted_parts : List Part
accepted_parts = number 2 any ∷ counted 1 1 flagged ∷ []

abbrev pub answer_forms : List Form
answer_forms =
    answer_form kind.done []
    ∷ answer_form kind.signed (bytes 32 ∷ [])
    ∷ answer_form kind.counter (number 8 any ∷ [])
    ∷ answer_form kind.closed whole_thing
    ∷ answer_form kind.opened opened_parts
    ∷ answer_form kind.now now_parts
    ∷ answer_form kind.refused refused_parts
    ∷ answer_form kind.accepted accepted_parts
    ∷ []

abbrev pub shown_answer : Answer → List Field
shown_answer Done = Number 1 kind.done ∷ []
shown_answer (Signed s) = Number 1 kind.signed ∷ Bytes s.bytes ∷ []
shown_answer (Counter n) = Number 1 kind.counter ∷ Number 8 n ∷ []
shown_answer (Closed t) = Number 1 kind.closed ∷ shown_thing t
shown_answer (Opened x) = Number 1 kind.opened ∷ Counted 2 (length x.now) x.now ∷ []
shown_answer (Now n s) = Number 1 kind.now ∷ Number 8 n ∷ Bytes s.bytes ∷ []
shown_answer (Refused k) = Number 1 kind.refused ∷ Number 1 (number_of k) ∷ []
shown_answer (Accepted n x) = Number 1 kind.accepted ∷ Number 2 n ∷ Counted 1 (length x.now) x.now ∷ []
