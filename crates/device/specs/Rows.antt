-- Rows of digests: what a register holds.
use Rattle.std.specs.Prelude.{◌≡◌, ◌+◌, ◌<◌, ◌≤◌, Bool, true, false, T, List, map, reverse, length, take, replicate, Some, None, Option, nat_lt, slice_set, refl}
use Rattle.std.proofs.Common.{sym, subst, ◌∙◌, arith, ltb→lt, lit≤, length-set}
use Rattle.std.specs.Cmp.Lexicographic.{pointwise}
use Rattle.std.specs.Ordering.{on}
use Rattle.std.specs.Str.{bytes_eq}
use Rattle.model.specs.Term as term
use Rattle.device.specs.declared.digests.Digest.{Digest}
use Rattle.device.specs.declared.registers.Register.{Register}

-- the digests in a register, the oldest first
abbrev pub row : Register → List Digest
row r = take r.len r.digests

-- the same as the model has them: lists of numbers, the latest first
abbrev pub words : Register → List term.Digest
words r = map (λ d. d.bytes) (reverse (row r))

abbrev pub empty_register : Register
empty_register = record { digests = replicate 16 (record { bytes = replicate 32 0 }); len = 0; long = refl; fits = lit≤ tt }

-- ---- one more

pub long_more : (r : Register) (d : Digest) → length (slice_set r.digests r.len d) ≡ 16
long_more r d = length-set r.digests r.len d ∙ r.long

pub fits_more : (r : Register) → nat_lt r.len 16 ≡ true → r.len + 1 ≤ 16
fits_more r e = let below : r.len < 16 = ltb→lt r.len 16 (subst (λ b. T b) (sym e) tt) in omega arith

abbrev pub pushed_at : (r : Register) (d : Digest) (b : Bool) → nat_lt r.len 16 ≡ b → Option Register
pushed_at r d true e = Some (record { digests = slice_set r.digests r.len d; len = r.len + 1; long = long_more r d; fits = fits_more r e })
pushed_at r d false e = None

-- the register with one digest more, unless it is full
abbrev pub pushed : Register → Digest → Option Register
pushed r d = pushed_at r d (nat_lt r.len 16) refl

-- ---- the same

abbrev pub same_digests : List Digest → List Digest → Bool
same_digests = pointwise (on (λ d. d.bytes) bytes_eq)

abbrev pub same_row : Register → Register → Bool
same_row = on row same_digests
