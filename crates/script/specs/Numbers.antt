-- Numbers: decimal digits, up to a limit.
use Rattle.std.specs.Prelude.{ℕ, ◌+◌, ◌-◌, ◌*◌, cond, ◌||◌, List, [], ◌∷◌, length, Some, None, Ok, Err, Option, Result, ◌==◌, nat_lt}
use Rattle.script.specs.declared.faults.Fault.{Fault}
use Rattle.script.specs.declared.faults.Fault.TheVariants.{NoNumber}

-- n with the digit b after it; `0` is 48 and `9` is 57
abbrev pub next_of : ℕ → ℕ → ℕ → Option ℕ
next_of limit n b = cond (nat_lt b 48 || nat_lt 57 b) None (cond (nat_lt limit (n * 10 + (b - 48))) None (Some (n * 10 + (b - 48))))

abbrev pub go_on : Option ℕ → (ℕ → Result ℕ Fault) → Result ℕ Fault
go_on None f = Err NoNumber
go_on (Some n) f = f n

unfoldable pub digits_of : ℕ → ℕ → List ℕ → Result ℕ Fault
digits_of limit n [] = Ok n
digits_of limit n (b ∷ bs) = go_on (next_of limit n b) (λ m. digits_of limit m bs)

abbrev pub number_of : ℕ → List ℕ → Result ℕ Fault
number_of limit bs = cond (length bs == 0) (Err NoNumber) (digits_of limit 0 bs)
