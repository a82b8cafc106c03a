use Rattle.std.proofs.Common.{rules, [], arith}
use Rattle.cipher.proofs.Transposed.{same_lanes}
use Rattle.cipher.proofs.lanes.beside.Goals as goal

pub returns : goal.returns
returns c =
    same_lanes c.args.a c.args.b c.args.c c.args.d c.from_fn.result (omega arith) (omega arith) (omega arith) (omega arith) (omega arith)
    (λ i l. let h = c.from_fn.ensures.items.at i [] l in search rules)
