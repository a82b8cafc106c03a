-- What each command does to a chip, and what it answers.
use Rattle.std.specs.Prelude.{ℕ, ◌+◌, ◌^◌, cond, Some, None, Option, Ok, Err, Result, ◌==◌, nat_lt}
use Rattle.device.specs.declared.chips.Chip.{Chip}
use Rattle.device.specs.declared.chips.Command.{Command}
use Rattle.device.specs.declared.chips.Command.TheVariants.{Put, Sign, Count, Close, Open, Read, SwitchedOn}
use Rattle.device.specs.declared.chips.Answer.{Answer}
use Rattle.device.specs.declared.chips.Answer.TheVariants.{Done, Signed, Counter, Closed, Opened, Now}
use Rattle.device.specs.declared.chips.Target.{Target}
use Rattle.device.specs.declared.chips.Content.{Content}
use Rattle.device.specs.declared.chips.Signature.{Signature}
use Rattle.device.specs.declared.chips.Thing.{Thing}
use Rattle.device.specs.declared.digests.Data.{Data}
use Rattle.device.specs.declared.digests.Digest.{Digest}
use Rattle.device.specs.declared.refusals.Refusal.{Refusal}
use Rattle.device.specs.declared.refusals.Refusal.TheVariants.{Full, Malformed, BadSeal, OtherRow, OtherCounter, UsedUp}
use Rattle.device.specs.declared.registers.Register.{Register}
use Rattle.device.specs.Rows.{empty_register, pushed}
use Rattle.device.specs.Things.{is_row, sealed_by_of}

abbrev pub new_chip : ℕ → Chip
new_chip a = record { id = a; register = empty_register; counter = 0; number = 0 }

abbrev pub with_register : Register → Chip → Chip
with_register r c = record { id = c.id; register = r; counter = c.counter; number = c.number }

abbrev pub switched : Chip → Chip
switched c = with_register empty_register c

abbrev pub put_by : Chip → Option Register → Result Chip Refusal
put_by c (Some r) = Ok (with_register r c)
put_by c None = Err Full

abbrev pub put_of : Chip → Digest → Result Chip Refusal
put_of c d = put_by c (pushed c.register d)

abbrev pub signature_of : Chip → Data → Signature
signature_of c d = record { chip = c.id; «data» = d; register = c.register }

-- counter and number stop at 2^63
abbrev pub counted : Chip → Result Chip Refusal
counted c = cond (nat_lt c.counter (2 ^ 63)) (Ok (record { id = c.id; register = c.register; counter = c.counter + 1; number = c.number })) (Err UsedUp)

-- what the chip closes next
abbrev pub content : Chip → Target → Data → Content
content c t d = record { number = c.number; target = t; counter = c.counter; «data» = d }

abbrev pub sealed : ℕ → Content → Thing
sealed a x = record { content = x; seal = record { chip = a; content = x } }

abbrev pub closed : Chip → Target → Data → Result (Chip × Thing) Refusal
closed c t d = cond (nat_lt c.number (2 ^ 63)) (Ok (record { id = c.id; register = c.register; counter = c.counter; number = c.number + 1 }, sealed c.id (content c t d))) (Err UsedUp)

-- the seal, then the row, then the counter
abbrev pub opened : Chip → Thing → Result Data Refusal
opened c x = cond (sealed_by_of c.id x) (cond (is_row x.content.target c.register) (cond (x.content.counter == c.counter) (Ok x.content.«data») (Err OtherCounter)) (Err OtherRow)) (Err BadSeal)

abbrev pub read_of : Chip → ℕ × Register
read_of c = (c.counter, c.register)

-- ---- what is answered: the chip afterwards and the answer, or why it refuses, and then nothing has changed

abbrev pub as_done : Result Chip Refusal → Result (Chip × Answer) Refusal
as_done (Ok n) = Ok (n, Done)
as_done (Err k) = Err k

abbrev pub as_counter : Result Chip Refusal → Result (Chip × Answer) Refusal
as_counter (Ok n) = Ok (n, Counter n.counter)
as_counter (Err k) = Err k

abbrev pub as_closed : Result (Chip × Thing) Refusal → Result (Chip × Answer) Refusal
as_closed (Ok p) = Ok (p.0, Closed p.1)
as_closed (Err k) = Err k

abbrev pub as_opened : Chip → Result Data Refusal → Result (Chip × Answer) Refusal
as_opened c (Ok d) = Ok (c, Opened d)
as_opened c (Err k) = Err k

abbrev pub answered : Chip → Command → Result (Chip × Answer) Refusal
answered c (Put d) = as_done (put_of c d)
answered c (Sign d) = Ok (c, Signed (signature_of c d))
answered c Count = as_counter (counted c)
answered c (Close t d) = as_closed (closed c t d)
answered c (Open x) = as_opened c (opened c x)
answered c Read = Ok (c, Now (read_of c).0 (read_of c).1)
answered c SwitchedOn = Err Malformed
