-- The words that have a meaning of their own.
use Rattle.std.specs.Prelude.{ℕ, List, [], ◌∷◌, codes}
use Rattle.script.specs.declared.verbs.Verb.{Verb}
use Rattle.script.specs.declared.verbs.Verb.TheVariants.{Fleet, Wipe, File, FileThen, ListFurther, Switch, Start, Load, Put, Run, Sign, Count, Read, Keep, Close, Open, CutCount, CutClose, Chip, Good, Rows, Ticks, Ask, Answer, Fall, Net, Has}
use Rattle.script.specs.declared.verbs.Verb.TheVariants as verb
use Rattle.script.specs.declared.verbs.Key.{Key}
use Rattle.script.specs.declared.verbs.Key.TheVariants as key

-- of two with one word that with a suffix comes first
abbrev pub verbs : List Verb
verbs = Fleet ∷ Wipe ∷ FileThen ∷ File ∷ ListFurther ∷ verb.List ∷ Switch ∷ Start ∷ Load ∷ Put ∷ Run ∷ Sign ∷ Count ∷ Read ∷ Keep ∷ Close ∷ Open ∷ CutCount ∷ CutClose ∷ Chip ∷ Good ∷ Rows ∷ Ticks ∷ Ask ∷ Answer ∷ Fall ∷ Net ∷ Has ∷ []

abbrev pub verb_text : Verb → List ℕ
verb_text Fleet = codes "fleet"
verb_text Wipe = codes "wipe"
verb_text File = codes "file"
verb_text FileThen = codes "file"
verb_text verb.List = codes "list"
verb_text ListFurther = codes "list"
verb_text Switch = codes "switch"
verb_text Start = codes "start"
verb_text Load = codes "load"
verb_text Put = codes "put"
verb_text Run = codes "run"
verb_text Sign = codes "sign"
verb_text Count = codes "count"
verb_text Read = codes "read"
verb_text Keep = codes "keep"
verb_text Close = codes "close"
verb_text Open = codes "open"
verb_text CutCount = codes "cut"
verb_text CutClose = codes "cut"
verb_text Chip = codes "chip"
verb_text Good = codes "good"
verb_text Rows = codes "rows"
verb_text Ticks = codes "ticks"
verb_text Ask = codes "ask"
verb_text Answer = codes "answer"
verb_text Fall = codes "fall"
verb_text Net = codes "net"
verb_text Has = codes "has"

abbrev pub key_text : Key → List ℕ
key_text key.Then = codes "then"
key_text key.Further = codes "further"
key_text key.As = codes "as"
key_text key.For = codes "for"
key_text key.Count = codes "count"
key_text key.Close = codes "close"
key_text key.Chip = codes "chip"
