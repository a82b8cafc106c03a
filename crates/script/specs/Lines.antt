-- What the words of a line come to.
use Rattle.std.specs.Prelude.{ℕ, ◌-◌, cond, List, [], ◌∷◌, length, take, drop, Some, None, Ok, Err, codes, Option, Result, nat_lt}
use Rattle.std.specs.Borrow.{Bor}
use Rattle.script.specs.declared.faults.Fault.{Fault}
use Rattle.script.specs.declared.faults.Fault.TheVariants.{Shape}
use Rattle.script.specs.declared.labels.Label.{Label}
use Rattle.script.specs.declared.lines.Line.{Line}
use Rattle.script.specs.declared.lines.Line.TheVariants as line
use Rattle.script.specs.declared.lines.When.{When}
use Rattle.script.specs.declared.lines.When.TheVariants.{Before, After}
use Rattle.script.specs.declared.lines.places.Places.{Places}
use Rattle.script.specs.declared.lines.Part.{Part}
use Rattle.script.specs.declared.lines.Part.TheVariants.{First, Second, Name, Other, Word}
use Rattle.script.specs.declared.lines.Part.TheVariants as part
use Rattle.script.specs.declared.verbs.Verb.{Verb}
use Rattle.script.specs.declared.verbs.Verb.TheVariants as verb
use Rattle.script.specs.declared.verbs.Key.{Key}
use Rattle.script.specs.Texts.{same_text}
use Rattle.script.specs.Verbs.{verbs, key_text}
use Rattle.script.specs.Labels.{no_label, label_of}
use Rattle.script.specs.Numbers.{number_of}
use Rattle.script.specs.Forms.{Words, parts_of, suffix_of, body_of, word_at, first_suiting, misfit_of}

-- what follows where nothing went wrong
abbrev pub then_on : {A B : Type 0} → Result A Fault → (A → Result B Fault) → Result B Fault
then_on (Ok x) f = f x
then_on (Err e) f = Err e

-- nothing was read yet
abbrev pub blank : Places
blank = record { first = 0; second = 0; list = 0; when = Before; name = no_label; other = no_label }

abbrev pub with_first : Places → ℕ → Places
with_first p n = record p { first = n }

abbrev pub with_second : Places → ℕ → Places
with_second p n = record p { second = n }

abbrev pub with_list : Places → ℕ → Places
with_list p n = record p { list = n }

abbrev pub with_when : Places → When → Places
with_when p t = record p { when = t }

abbrev pub with_name : Places → Label → Places
with_name p l = record p { name = l }

abbrev pub with_other : Places → Label → Places
with_other p l = record p { other = l }

abbrev pub when_of : List ℕ → Result When Fault
when_of w = cond (same_text w (codes "before")) (Ok Before) (cond (same_text w (codes "after")) (Ok After) (Err Shape))

-- the places with the word that stands at a part
abbrev pub put_of : Places → Part → List ℕ → Result Places Fault
put_of p (First limit) w = then_on (number_of limit w) (λ n. Ok (with_first p n))
put_of p (Second limit) w = then_on (number_of limit w) (λ n. Ok (with_second p n))
put_of p part.List w = then_on (number_of 65535 w) (λ n. Ok (with_list p n))
put_of p Name w = then_on (label_of w) (λ n. Ok (with_name p n))
put_of p Other w = then_on (label_of w) (λ n. Ok (with_other p n))
put_of p part.When w = then_on (when_of w) (λ t. Ok (with_when p t))
put_of p (Word k) w = cond (same_text w (key_text k)) (Ok p) (Err Shape)

-- word after word
unfoldable pub filled : Places → List Part → Words → Result Places Fault
filled p [] ws = Ok p
filled p (q ∷ qs) [] = Err Shape
filled p (q ∷ qs) (w ∷ ws) = then_on (put_of p q w.now) (λ r. filled r qs ws)

-- the name after the suffix
abbrev pub ended_of : Places → Option Key → Words → Result Places Fault
ended_of p None ws = Ok p
ended_of p (Some k) ws = cond (nat_lt (length ws) 1) (Err Shape) (put_of p Other (word_at ws (length ws - 1)))

-- the line of a verb with these places
abbrev pub line_of : Verb → Places → Line
line_of verb.Fleet p = line.Fleet p.first p.second
line_of verb.Wipe p = line.Wipe
line_of verb.File p = line.File p.name None
line_of verb.FileThen p = line.File p.name (Some p.other)
line_of verb.List p = line.List p.name None
line_of verb.ListFurther p = line.List p.name (Some p.other)
line_of verb.Switch p = line.Switch p.first
line_of verb.Start p = line.Start p.first p.name
line_of verb.Load p = line.Load p.first p.name
line_of verb.Put p = line.Put p.first p.name
line_of verb.Run p = line.Run p.first p.name
line_of verb.Sign p = line.Sign p.first p.name p.other
line_of verb.Count p = line.Count p.first
line_of verb.Read p = line.Read p.first
line_of verb.Keep p = line.Keep p.first p.name p.other
line_of verb.Close p = line.Close p.first p.name p.other
line_of verb.Open p = line.Open p.first p.name
line_of verb.CutCount p = line.CutCount p.first p.when
line_of verb.CutClose p = line.CutClose p.first
line_of verb.Chip p = line.Chip p.first p.second
line_of verb.Good p = line.Good p.first
line_of verb.Rows p = line.Rows p.first p.list
line_of verb.Ticks p = line.Ticks p.first p.second
line_of verb.Ask p = line.Ask p.first p.second p.name
line_of verb.Answer p = line.Answer p.first p.second p.name p.list p.other
line_of verb.Fall p = line.Fall p.first
line_of verb.Net p = line.Net p.first p.second
line_of verb.Has p = line.Has p.name

-- the parts, then the programs, then the suffix
abbrev pub parted : Verb → Words → Option Words → Result (Line × Words) Fault
parted v ws None = Err Shape
parted v ws (Some body) = cond (nat_lt (length body) (length (parts_of v))) (Err Shape) (then_on (filled blank (parts_of v) (take (length (parts_of v)) body)) (λ p. then_on (ended_of p (suffix_of v) ws) (λ q. Ok (line_of v q, drop (length (parts_of v)) body))))

abbrev pub read_as : Verb → Words → Result (Line × Words) Fault
read_as v ws = parted v ws (body_of v ws)

abbrev pub read_chosen : Option Verb → List ℕ → Words → Result (Line × Words) Fault
read_chosen (Some v) w ws = read_as v ws
read_chosen None w ws = Err (misfit_of w verbs)

-- the line of these words, and its programs
abbrev pub read_of : Words → Result (Line × Words) Fault
read_of [] = Err Shape
read_of (w ∷ ws) = read_chosen (first_suiting w.now ws verbs) w.now ws

-- a result whose programs are lent
abbrev pub seen : Result (Line × Bor Words) Fault → Result (Line × Words) Fault
seen (Ok x) = Ok (x.0, x.1.now)
seen (Err e) = Err e
