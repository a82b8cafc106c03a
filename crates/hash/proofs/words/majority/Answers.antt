use Rattle.std.proofs.Common.{arith}
use Rattle.hash.proofs.Bits.{majority}
use Rattle.hash.proofs.words.majority.Goals as goal

pub returns : goal.returns
returns c = majority c.args.x c.args.y c.args.z (omega arith) (omega arith) (omega arith)
