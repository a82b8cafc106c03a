-- The numbers by which kinds of words are told: a word's first byte.
use Rattle.std.specs.Prelude.{◌≡◌, ◌≢◌, ℕ, Result, MatchResult}
use Rattle.wire.specs.declared.kinds.CommandKind.{CommandKind}
use Rattle.wire.specs.declared.kinds.CommandKind.TheVariants as command
use Rattle.wire.specs.declared.kinds.AnswerKind.{AnswerKind}
use Rattle.wire.specs.declared.kinds.AnswerKind.TheVariants as answer
use Rattle.wire.specs.declared.kinds.UnknownKind.{UnknownKind}

-- commands to a chip
abbrev pub put : ℕ
put = 1

abbrev pub sign : ℕ
sign = 2

abbrev pub count : ℕ
count = 3

abbrev pub close : ℕ
close = 4

abbrev pub «open» : ℕ
«open» = 5

abbrev pub read : ℕ
read = 6

abbrev pub switched_on : ℕ
switched_on = 7

-- a thing
abbrev pub thing : ℕ
thing = 2

-- answers
abbrev pub done : ℕ
done = 16

abbrev pub signed : ℕ
signed = 17

abbrev pub counter : ℕ
counter = 18

abbrev pub closed : ℕ
closed = 19

abbrev pub opened : ℕ
opened = 20

abbrev pub now : ℕ
now = 21

abbrev pub refused : ℕ
refused = 32

abbrev pub accepted : ℕ
accepted = 33

-- from the office and from the net to the judge, and its question
abbrev pub ask : ℕ
ask = 47

abbrev pub question : ℕ
question = 48

abbrev pub statement : ℕ
statement = 49

abbrev pub list : ℕ
list = 50

abbrev pub goods : ℕ
goods = 51

abbrev pub chip : ℕ
chip = 52

abbrev pub ticks : ℕ
ticks = 53

-- to the loader
abbrev pub start_list : ℕ
start_list = 54

abbrev pub program : ℕ
program = 55

-- ---- the kinds that code tells apart

abbrev pub number_of_command : CommandKind → ℕ
number_of_command command.Put = put
number_of_command command.Sign = sign
number_of_command command.Count = count
number_of_command command.Close = close
number_of_command command.Open = «open»
number_of_command command.Read = read
number_of_command command.SwitchedOn = switched_on

abbrev pub number_of_answer : AnswerKind → ℕ
number_of_answer answer.Done = done
number_of_answer answer.Signed = signed
number_of_answer answer.Counter = counter
number_of_answer answer.Closed = closed
number_of_answer answer.Opened = opened
number_of_answer answer.Now = now
number_of_answer answer.Refused = refused
number_of_answer answer.Accepted = accepted

-- the kind that has this number, or that no kind has it
abbrev pub Told : {K : Type 0} → (K → ℕ) → ℕ → Result K UnknownKind → Type 0
Told {K} number_of n r = MatchResult r (λ k. number_of k ≡ n) (λ e. (e.0 ≡ n) × ((k : K) → number_of k ≢ n))
