use Rattle.boot.proofs.Worlds.{starts}
use Rattle.boot.proofs.machines.Machine.start.Goals as goal

pub returns-clause-steps : goal.returns-clause-steps
returns-clause-steps c = starts c.args.self c.args.first _ _ c.args.list _ c.begin-ended.ensures
