use Rattle.verifier.proofs.judges.Judge.net.Goals as goal
use Rattle.verifier.proofs.Worlds.{net_steps}
use Rattle.verifier.proofs.Refusals.{net_idle}

pub returns-clause-steps : goal.returns-clause-steps
returns-clause-steps c = net_steps c.args.self.now c.args.word _ c.hear_net.ensures

pub returns-clause-refuses : goal.returns-clause-refuses
returns-clause-refuses c = (net_idle c.args.self.now c.args.word _ c.hear_net.ensures).0
