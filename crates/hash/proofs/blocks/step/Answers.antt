use Rattle.std.proofs.Common.{get_or}
use Rattle.hash.proofs.Schedules.{first_sum}
use Rattle.hash.proofs.blocks.step.Goals as goal

pub returns : goal.returns
returns c = λ k w e.
    let t = first_sum (get_or c.args.s 7 0) c.big_sigma.result c.choose.result k w c.args.x e in
    cc
