use Rattle.model.proofs.promise_holds.Goals as goal
use Rattle.model.proofs.Main.{main}

pub returns : goal.returns
returns c = main
