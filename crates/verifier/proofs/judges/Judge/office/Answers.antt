use Rattle.verifier.proofs.judges.Judge.office.Goals as goal
use Rattle.verifier.specs.Seats.{found}
use Rattle.verifier.proofs.Worlds.{office_steps}
use Rattle.verifier.proofs.Refusals.{office_idle}

pub returns-clause-steps : goal.returns-clause-steps
returns-clause-steps c = office_steps (found c.hear.result) c.args.self.now c.args.word c.args.digests.now c.args.draw _ c.hear.ensures

pub returns-clause-refuses : goal.returns-clause-refuses
returns-clause-refuses c = (office_idle (found c.hear.result) c.args.self.now c.args.word c.args.digests.now c.args.draw _ c.hear.ensures).0

pub returns-clause-lacks : goal.returns-clause-lacks
returns-clause-lacks c = (office_idle (found c.hear.result) c.args.self.now c.args.word c.args.digests.now c.args.draw _ c.hear.ensures).1
