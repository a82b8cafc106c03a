use Rattle.hash.proofs.Macs.{mac_is}
use Rattle.hash.proofs.keys.Key.mac.Goals as goal

pub returns : goal.returns
returns c = λ k e. mac_is c.args.self k c.args.message.now _ _ e c.finish-digest.ensures c.finish.ensures
