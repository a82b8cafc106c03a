use Rattle.std.proofs.Common.{arith}
use Rattle.hash.proofs.Bits.{choice}
use Rattle.hash.proofs.words.choose.Goals as goal

pub returns : goal.returns
returns c = choice c.args.x c.args.y c.args.z (omega arith) (omega arith) (omega arith)
