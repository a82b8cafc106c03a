-- What is written of a command, an answer or a thing, and which are written.
use Rattle.std.specs.Prelude.{ℕ, Bool, true, cond, ◌&&◌, List, length, None, Option, ◌==◌, nat_le}
use Rattle.orders.specs.declared.answers.Answer.{Answer}
use Rattle.orders.specs.declared.answers.Answer.TheVariants as answer
use Rattle.orders.specs.declared.commands.Command.{Command}
use Rattle.orders.specs.declared.commands.Command.TheVariants as command
use Rattle.orders.specs.declared.things.Thing.{Thing}
use Rattle.wire.specs.Fields.{written}
use Rattle.orders.specs.Answers.{flagged}
use Rattle.orders.specs.Things.{most_closed}

-- what is out of its limits has no bytes, and nothing is written
abbrev pub writes : Bool → List ℕ → List ℕ → Option ℕ × List ℕ
writes fits bs before = cond fits (written bs before) (None, before)

abbrev pub few : List ℕ → Bool
few bs = nat_le (length bs) most_closed

abbrev pub fits_thing : Thing → Bool
fits_thing t = few t.turned.now && length t.seal.now == 16

abbrev pub fits_command : Command → Bool
fits_command (command.Put d) = true
fits_command (command.Sign d) = true
fits_command command.Count = true
fits_command (command.Close s x) = few x.now
fits_command (command.Open t) = fits_thing t
fits_command command.Read = true
fits_command command.SwitchedOn = true

abbrev pub fits_answer : Answer → Bool
fits_answer answer.Done = true
fits_answer (answer.Signed s) = true
fits_answer (answer.Counter n) = true
fits_answer (answer.Closed t) = fits_thing t
fits_answer (answer.Opened x) = few x.now
fits_answer (answer.Now n s) = true
fits_answer (answer.Refused k) = true
fits_answer (answer.Accepted n x) = flagged (length x.now) x.now
