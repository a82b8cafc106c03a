-- Names: words of at most sixteen bytes.
use Rattle.std.specs.Prelude.{ℕ, Bool, true, false, cond, List, [], ◌∷◌, ◌++◌, length, drop, replicate, Ok, Err, vec_items, Result, Vec, nat_lt}
use Rattle.std.specs.Borrow.{Bor}
use Rattle.std.specs.Str.{bytes_eq}
use Rattle.std.specs.declared.alloc.Global.{Global}
use Rattle.script.specs.declared.faults.Fault.{Fault}
use Rattle.script.specs.declared.faults.Fault.TheVariants.{Unknown, Shape, TooLong, NoNumber, TooMany, NoFleet, NotKept, NoMemory}
use Rattle.script.specs.declared.labels.Label.{Label}

abbrev pub no_label : Label
no_label = record { bytes = replicate 16 0 }

-- the word, and zeros after it
abbrev pub padded : List ℕ → Label
padded bs = record { bytes = bs ++ drop (length bs) (replicate 16 0) }

abbrev pub label_of : List ℕ → Result Label Fault
label_of bs = cond (nat_lt 16 (length bs)) (Err TooLong) (Ok (padded bs))

abbrev pub same_label : Label → Label → Bool
same_label a b = bytes_eq a.bytes b.bytes

-- one name more
abbrev pub go_on : Result Label Fault → (Label → Result (List Label) Fault) → Result (List Label) Fault
go_on (Ok l) f = f l
go_on (Err e) f = Err e

-- these words as names, after those that were read
unfoldable pub labels_of : List Label → List (Bor (List ℕ)) → Result (List Label) Fault
labels_of ls [] = Ok ls
labels_of ls (w ∷ ws) = go_on (label_of w.now) (λ l. labels_of (ls ++ l ∷ []) ws)

-- whether memory was found
abbrev pub met : {A : Type 0} → Result A Fault → Bool
met (Ok x) = true
met (Err Unknown) = true
met (Err Shape) = true
met (Err TooLong) = true
met (Err NoNumber) = true
met (Err TooMany) = true
met (Err NoFleet) = true
met (Err NotKept) = true
met (Err NoMemory) = false

-- the names without their memory
abbrev pub listed : Result (Vec Label Global) Fault → Result (List Label) Fault
listed (Ok v) = Ok (vec_items v)
listed (Err e) = Err e
