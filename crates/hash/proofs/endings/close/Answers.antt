use Rattle.std.proofs.Common.{arith}
use Rattle.hash.proofs.Paddings.{closed_one, closed_two}
use Rattle.hash.proofs.endings.close.Goals as goal

pub returns-then-used-lt56 : goal.returns-then-used-lt56
returns-then-used-lt56 c = λ t e f. let p = closed_one c.args.h t c.args.tail c.args.len e (omega arith) f in cc

pub returns : goal.returns
returns c = λ t e f. let p = closed_two c.args.h t c.args.tail c.args.len e (omega arith) f in cc
