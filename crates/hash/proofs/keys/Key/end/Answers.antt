use Rattle.hash.proofs.Macs.{end_is}
use Rattle.hash.proofs.keys.Key.end.Goals as goal

pub returns : goal.returns
returns c = λ k m e f. end_is c.args.self k m _ _ e (c.finish.ensures _ f) c.finish-2.ensures
