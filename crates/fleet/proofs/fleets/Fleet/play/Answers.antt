use Rattle.fleet.proofs.Plays.{play_steps, tells}
use Rattle.fleet.proofs.fleets.Fleet.play.Goals as goal

pub returns : goal.returns
returns c = record { exact = c.answer.ensures; steps = play_steps c.args.self.now c.args.event c.args.digests.now _ c.answer.ensures; tells = tells c.args.self.now c.args.event c.args.digests.now _ c.answer.ensures }
