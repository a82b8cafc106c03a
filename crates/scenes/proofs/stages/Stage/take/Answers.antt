use Rattle.scenes.specs.Scenes.{met, found_in}
use Rattle.scenes.proofs.Refusals.{refuses}
use Rattle.scenes.proofs.stages.Stage.take.Goals as goal

pub returns : goal.returns
returns c = record { exact = c.play.ensures; refuses = refuses (met c.play.result) (found_in c.play.result) c.args.self.now c.args.step c.args.digests.now _ _ c.play.ensures }
