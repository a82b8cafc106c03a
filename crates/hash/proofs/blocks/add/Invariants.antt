use Rattle.std.proofs.Common.{◌≡◌, ℕ, ◌<◌, ◌≤◌, length, get_or}
use Rattle.hash.specs.Words.{plus}
use Rattle.hash.proofs.blocks.add.Given as goal

abbrev pub invariant-loop-i : goal.invariant-loop-i
invariant-loop-i g l = record {
  long : length l.sum-items ≡ g.row.N;
  done : (j : ℕ) → j < l.i → get_or l.sum-items j 0 ≡ plus (get_or l.a j 0) (get_or l.b j 0);
  left : (j : ℕ) → l.i ≤ j → get_or l.sum-items j 0 ≡ get_or l.a j 0;
}
