use Rattle.boot.proofs.Worlds.{asks}
use Rattle.boot.proofs.machines.Machine.ask.Goals as goal

pub returns-clause-steps : goal.returns-clause-steps
returns-clause-steps c = asks c.args.self _ _ c.args.name _ c.fetch.ensures
