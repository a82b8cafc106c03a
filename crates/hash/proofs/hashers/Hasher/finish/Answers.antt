use Rattle.hash.proofs.Messages.{finish_is}
use Rattle.hash.proofs.hashers.Hasher.finish.Goals as goal

pub returns : goal.returns
returns c = λ m e. finish_is c.args.self m _ e c.close.ensures
