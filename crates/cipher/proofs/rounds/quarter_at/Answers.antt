use Rattle.std.proofs.Common.{arith}
use Rattle.cipher.proofs.Quarters.{quarter_lane, read_lane}
use Rattle.cipher.proofs.rounds.quarter_at.Goals as goal

pub returns : goal.returns
returns g c k =
    let at = read_lane (g.W.Word.lane k) c.args.s.now in
    quarter_lane (g.W.Word.lane k) c.args.a c.args.b c.args.c c.args.d _ _ _ _ c.quarter.result c.args.s.now
    (at c.args.a c.index-s-a.result (omega arith))
    (at c.args.b c.index-s-b.result (omega arith))
    (at c.args.c c.index-s-c.result (omega arith))
    (at c.args.d c.index-s-d.result (omega arith))
    (c.quarter.ensures k)
