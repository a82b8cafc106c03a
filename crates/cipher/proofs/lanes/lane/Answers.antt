use Rattle.std.proofs.Common.{rules, arith}
use Rattle.cipher.proofs.Transposed.{same_lane}
use Rattle.cipher.proofs.lanes.lane.Goals as goal

pub returns : goal.returns
returns c =
    same_lane c.args.k c.from_fn.result c.args.s.now (omega arith) (omega arith)
    (λ i l. let h = c.from_fn.ensures.items.at i 0 l in search rules)
