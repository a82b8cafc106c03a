use Rattle.std.proofs.Common.{rules}
use Rattle.verifier.proofs.judges.Judge.new.Goals as goal
use Rattle.verifier.proofs.Worlds.{begins_new}

pub returns-clause-begins : goal.returns-clause-begins
returns-clause-begins c = begins_new c.args.first _ (search rules)
