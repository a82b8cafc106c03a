use Rattle.std.proofs.Common.{◌≤◌}
use Rattle.vectors.proofs.rows.Report.run.Given as goal

abbrev pub invariant-loop-case : goal.invariant-loop-case
invariant-loop-case g l = l.initial.self.tally.differing ≤ l.self.tally.differing
