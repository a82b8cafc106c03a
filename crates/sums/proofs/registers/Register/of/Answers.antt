use Rattle.std.proofs.Common.{◌∙◌}
use Rattle.sums.proofs.Folds.{sum_more}
use Rattle.sums.proofs.registers.Register.of.Goals as goal

pub loop-digest-preserved : goal.loop-digest-preserved
loop-digest-preserved c =
    c.put-register.ensures
    ∙ sum_more c.args.digests.now c.loop-digest.digest-index _ c.loop-digest.register.sum c.loop-digest-test.true c.loop-digest.invariant
