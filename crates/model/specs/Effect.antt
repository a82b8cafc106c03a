-- What a step writes: to a machine, to a judge, to the world. What is not named stays as it was.
use Rattle.std.specs.Prelude.{Bool, cond, List, [], ◌∷◌, ℕ, suc, ◌*◌, eqb}
use Rattle.model.specs.Term.{Term, Digest, Nonce, Row, Pair, Sealed}
use Rattle.model.specs.World.{Target, Thing, Machine, Question, Judge, Acceptance, Opening, World}

-- ---- messages

-- the nonces of judges, and of those who close in secret, are the even ones
abbrev pub honest : ℕ → Term
honest n = Nonce (n * 2)

-- what a chip signs: what it was given, with its register
abbrev pub statement : Term → List Digest → Term
statement t row = Pair t (Row row)

-- ---- a machine

abbrev pub new_machine : Machine
new_machine = record { ran = []; register = []; counter = 0; number = 0; closed = [] }

abbrev pub with_programs : (ran register : List Digest) → Machine → Machine
with_programs ran register m = record { ran = ran; register = register; counter = m.counter; number = m.number; closed = m.closed }

-- switched on, or off and on
abbrev pub switched : Machine → Machine
switched m = with_programs [] [] m

abbrev pub loaded : Digest → Machine → Machine
loaded p m = with_programs (p ∷ m.ran) (p ∷ m.register) m

-- put into the register, and not loaded
abbrev pub put_unloaded : Digest → Machine → Machine
put_unloaded p m = with_programs m.ran (p ∷ m.register) m

-- loaded, and not put into the register
abbrev pub loaded_unput : Digest → Machine → Machine
loaded_unput p m = with_programs (p ∷ m.ran) m.register m

abbrev pub counted : Machine → Machine
counted m = record { ran = m.ran; register = m.register; counter = suc m.counter; number = m.number; closed = m.closed }

-- one number is used up, for these things
abbrev pub numbered_on : List Thing → Machine → Machine
numbered_on xs m = record { ran = m.ran; register = m.register; counter = m.counter; number = suc m.number; closed = xs }

abbrev pub with_thing : Thing → Machine → Machine
with_thing x m = numbered_on (x ∷ m.closed) m

-- a number is used up, and nothing was given out
abbrev pub passed_over : Machine → Machine
passed_over m = numbered_on m.closed m

-- the next thing of a chip
abbrev pub thing : Target → Term → (secret : Bool) → Machine → Thing
thing target t secret m = record { number = m.number; target = target; counter = m.counter; what = t; secret = secret }

-- ---- a judge

abbrev pub new_judge : Judge
new_judge = record { chips = []; lists = []; questions = [] }

abbrev pub with_chip : ℕ → Judge → Judge
with_chip a d = record { chips = a ∷ d.chips; lists = d.lists; questions = d.questions }

abbrev pub with_list : List Digest → Judge → Judge
with_list row d = record { chips = d.chips; lists = row ∷ d.lists; questions = d.questions }

abbrev pub with_questions : List Question → Judge → Judge
with_questions qs d = record { chips = d.chips; lists = d.lists; questions = qs }

-- ---- the world

-- x at the place a, and elsewhere as before
abbrev pub at : {A : Type 0} → ℕ → A → (ℕ → A) → ℕ → A
at a x f j = cond (eqb j a) x (f j)

-- the beginning: all chips and judges are new, and nothing was said
abbrev pub made : World
made = record { machines = λ _. new_machine; judges = λ _. new_judge; heard = []; asked = []; accepted = []; opened = []; next = 0 }

abbrev pub with_machine : ℕ → Machine → World → World
with_machine a m w = record { machines = at a m w.machines; judges = w.judges; heard = w.heard; asked = w.asked; accepted = w.accepted; opened = w.opened; next = w.next }

abbrev pub with_judge : ℕ → Judge → World → World
with_judge j d w = record { machines = w.machines; judges = at j d w.judges; heard = w.heard; asked = w.asked; accepted = w.accepted; opened = w.opened; next = w.next }

abbrev pub saying : Term → World → World
saying t w = record { machines = w.machines; judges = w.judges; heard = t ∷ w.heard; asked = w.asked; accepted = w.accepted; opened = w.opened; next = w.next }

abbrev pub having_drawn : World → World
having_drawn w = record { machines = w.machines; judges = w.judges; heard = w.heard; asked = w.asked; accepted = w.accepted; opened = w.opened; next = suc w.next }

abbrev pub having_asked : Question → World → World
having_asked q w = record { machines = w.machines; judges = w.judges; heard = w.heard; asked = q ∷ w.asked; accepted = w.accepted; opened = w.opened; next = w.next }

abbrev pub having_accepted : Acceptance → World → World
having_accepted c w = record { machines = w.machines; judges = w.judges; heard = w.heard; asked = w.asked; accepted = c ∷ w.accepted; opened = w.opened; next = w.next }

abbrev pub having_opened : Opening → World → World
having_opened p w = record { machines = w.machines; judges = w.judges; heard = w.heard; asked = w.asked; accepted = w.accepted; opened = p ∷ w.opened; next = w.next }

-- what f does, done to machine a, or to judge j
abbrev pub on_machine : ℕ → (Machine → Machine) → World → World
on_machine a f w = with_machine a (f (w.machines a)) w

abbrev pub on_judge : ℕ → (Judge → Judge) → World → World
on_judge j f w = with_judge j (f (w.judges j)) w

-- chip a closes x, and what it gives out is heard
abbrev pub giving_out : ℕ → Thing → World → World
giving_out a x w = saying (Sealed a x.number) (on_machine a (with_thing x) w)

abbrev pub opening : ℕ → Thing → Opening
opening a x = record { chip = a; thing = x }

-- the next question of judge j to chip a
abbrev pub question : (j a : ℕ) → World → Question
question j a w = record { judge = j; chip = a; nonce = w.next }

-- a judge asks, with the nonce that it just drew
abbrev pub asking : Question → World → World
asking q w = having_drawn (having_asked q (saying (honest q.nonce) (on_judge q.judge (λ d. with_questions (q ∷ d.questions) d) w)))

abbrev pub acceptance : Question → List Digest → Acceptance
acceptance q row = record { question = q; row = row }
