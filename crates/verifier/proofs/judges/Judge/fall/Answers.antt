use Rattle.verifier.proofs.judges.Judge.fall.Goals as goal
use Rattle.verifier.proofs.Worlds.{falls}

pub returns-clause-steps : goal.returns-clause-steps
returns-clause-steps c = falls c.args.self.now _ c.forget.ensures
