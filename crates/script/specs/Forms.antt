-- The form of each line: what stands at its places, whether programs follow, and with which word and name it ends.
use Rattle.std.specs.Prelude.{ℕ, ◌-◌, Bool, true, false, cond, ◌&&◌, List, [], ◌∷◌, map, length, take, Some, None, Option, ◌==◌, nat_le, nat_lt, slice_index_or}
use Rattle.std.specs.Borrow.{Bor}
use Rattle.script.specs.declared.faults.Fault.{Fault}
use Rattle.script.specs.declared.faults.Fault.TheVariants.{Unknown, Shape}
use Rattle.script.specs.declared.lines.Part.{Part}
use Rattle.script.specs.declared.lines.Part.TheVariants.{First, Second, Name, Other, Word}
use Rattle.script.specs.declared.lines.Part.TheVariants as part
use Rattle.script.specs.declared.verbs.Key.{Key}
use Rattle.script.specs.declared.verbs.Key.TheVariants as key
use Rattle.script.specs.declared.verbs.Verb.{Verb}
use Rattle.script.specs.declared.verbs.Verb.TheVariants.{Fleet, Wipe, File, FileThen, ListFurther, Switch, Start, Load, Put, Run, Sign, Count, Read, Keep, Close, Open, CutCount, CutClose, Chip, Good, Rows, Ticks, Ask, Answer, Fall, Net, Has}
use Rattle.script.specs.declared.verbs.Verb.TheVariants as verb
use Rattle.script.specs.Texts.{same_text}
use Rattle.script.specs.Verbs.{verb_text, key_text}

-- the words of a line
abbrev pub Words : Type 0
Words = List (Bor (List ℕ))

-- a machine's or a judge's place, a chip's number, ticks
abbrev pub any : ℕ
any = 4294967295

-- how many machines and judges
abbrev pub few : ℕ
few = 255

abbrev pub parts_of : Verb → List Part
parts_of Fleet = First few ∷ Second few ∷ []
parts_of Wipe = []
parts_of File = Name ∷ []
parts_of FileThen = Name ∷ []
parts_of verb.List = Name ∷ []
parts_of ListFurther = Name ∷ []
parts_of Switch = First any ∷ []
parts_of Start = First any ∷ Name ∷ []
parts_of Load = First any ∷ Name ∷ []
parts_of Put = First any ∷ Name ∷ []
parts_of Run = First any ∷ Name ∷ []
parts_of Sign = First any ∷ Name ∷ []
parts_of Count = First any ∷ []
parts_of Read = First any ∷ []
parts_of Keep = First any ∷ Name ∷ Word key.For ∷ []
parts_of Close = First any ∷ Name ∷ Word key.For ∷ []
parts_of Open = First any ∷ Name ∷ []
parts_of CutCount = Word key.Count ∷ First any ∷ part.When ∷ []
parts_of CutClose = Word key.Close ∷ First any ∷ []
parts_of Chip = First any ∷ Second any ∷ []
parts_of Good = First any ∷ []
parts_of Rows = First any ∷ part.List ∷ []
parts_of Ticks = First any ∷ Second any ∷ []
parts_of Ask = First any ∷ Second any ∷ Name ∷ []
parts_of Answer = First any ∷ Second any ∷ Name ∷ part.List ∷ Other ∷ []
parts_of Fall = First any ∷ []
parts_of Net = First any ∷ Word key.Chip ∷ Second any ∷ []
parts_of Has = Name ∷ []

-- whether programs follow
abbrev pub open_of : Verb → Bool
open_of Fleet = true
open_of Wipe = false
open_of File = false
open_of FileThen = false
open_of verb.List = true
open_of ListFurther = true
open_of Switch = false
open_of Start = false
open_of Load = false
open_of Put = false
open_of Run = false
open_of Sign = false
open_of Count = false
open_of Read = false
open_of Keep = true
open_of Close = true
open_of Open = false
open_of CutCount = false
open_of CutClose = false
open_of Chip = false
open_of Good = true
open_of Rows = true
open_of Ticks = false
open_of Ask = false
open_of Answer = false
open_of Fall = false
open_of Net = false
open_of Has = false

-- the word before the name with which the line ends
abbrev pub suffix_of : Verb → Option Key
suffix_of Fleet = None
suffix_of Wipe = None
suffix_of File = None
suffix_of FileThen = Some key.Then
suffix_of verb.List = None
suffix_of ListFurther = Some key.Further
suffix_of Switch = None
suffix_of Start = None
suffix_of Load = None
suffix_of Put = None
suffix_of Run = None
suffix_of Sign = Some key.As
suffix_of Count = None
suffix_of Read = None
suffix_of Keep = Some key.As
suffix_of Close = Some key.As
suffix_of Open = None
suffix_of CutCount = None
suffix_of CutClose = None
suffix_of Chip = None
suffix_of Good = None
suffix_of Rows = None
suffix_of Ticks = None
suffix_of Ask = None
suffix_of Answer = None
suffix_of Fall = None
suffix_of Net = None
suffix_of Has = None

-- the word at this place
unfoldable pub word_at : Words → ℕ → List ℕ
word_at ws i = slice_index_or (map (λ w. w.now) ws) i []

-- what comes before this word and a name at the end
abbrev pub ends_with : Key → Words → Option Words
ends_with k ws = cond (nat_lt (length ws) 2) None (cond (same_text (word_at ws (length ws - 2)) (key_text k)) (Some (take (length ws - 2) ws)) None)

-- the words without the suffix
abbrev pub before_suffix_of : Option Key → Words → Option Words
before_suffix_of None ws = Some ws
before_suffix_of (Some k) ws = ends_with k ws

abbrev pub body_of : Verb → Words → Option Words
body_of v ws = before_suffix_of (suffix_of v) ws

abbrev pub long_enough : Verb → Option Words → Bool
long_enough v None = false
long_enough v (Some ws) = cond (open_of v) (nat_le (length (parts_of v)) (length ws)) (length (parts_of v) == length ws)

-- whether these words after the verb can be its line
abbrev pub suits_of : Verb → Words → Bool
suits_of v ws = long_enough v (body_of v ws)

-- whether a line that begins with w, and goes on with ws, can be this verb's
abbrev pub begins : List ℕ → Words → Verb → Bool
begins w ws v = same_text w (verb_text v) && suits_of v ws

-- the first such verb
unfoldable pub first_suiting : List ℕ → Words → List Verb → Option Verb
first_suiting w ws [] = None
first_suiting w ws (v ∷ vs) = cond (begins w ws v) (Some v) (first_suiting w ws vs)

-- why there is none
unfoldable pub misfit_of : List ℕ → List Verb → Fault
misfit_of w [] = Unknown
misfit_of w (v ∷ vs) = cond (same_text w (verb_text v)) Shape (misfit_of w vs)
