use Rattle.std.proofs.Common.{◌≡◌, ◌-◌, false, ◌++◌, map, take, replicate}
use Rattle.device.specs.Rows.{row}
use Rattle.verifier.specs.Searches.{some, is_digest}
use Rattle.verifier.proofs.judges.rows.flag.Given as goal

abbrev pub invariant-loop-i : goal.invariant-loop-i
invariant-loop-i l = l.known ≡ map (λ d. some (is_digest d) l.good) (take l.i (row l.fn.row)) ++ replicate (16 - l.i) false
