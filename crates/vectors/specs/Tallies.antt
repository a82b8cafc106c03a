-- How many lines agree and differ. The counts stop at the largest number of 32 bits.
use Rattle.std.specs.Prelude.{ℕ, ◌+◌, ◌-◌, ◌^◌, min, Bool, true, false}
use Rattle.vectors.specs.declared.rows.Tally.{Tally}

abbrev pub none : Tally
none = record { agreeing = 0; differing = 0 }

abbrev pub more : ℕ → ℕ
more n = min (n + 1) (2 ^ 32 - 1)

abbrev pub counted : Tally → Bool → Tally
counted t true = record { agreeing = more t.agreeing; differing = t.differing }
counted t false = record { agreeing = t.agreeing; differing = more t.differing }
