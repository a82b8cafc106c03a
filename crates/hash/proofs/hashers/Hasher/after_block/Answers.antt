use Rattle.hash.proofs.Messages.{after_block}
use Rattle.hash.proofs.hashers.Hasher.after_block.Goals as goal

pub returns : goal.returns
returns c = λ b l e. after_block c.args.h b l e
