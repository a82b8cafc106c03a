use Rattle.std.proofs.Common.{◌≡◌, ℕ, map}
use Rattle.cipher.specs.Rounds.{rounds}
use Rattle.cipher.proofs.rounds.mixed.Given as goal

abbrev pub invariant-loop : goal.invariant-loop
invariant-loop g l = (k : ℕ) → map (g.W.Word.lane k) l.t ≡ rounds l.counter (map (g.W.Word.lane k) l.s)
