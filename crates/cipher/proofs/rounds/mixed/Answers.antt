use Rattle.std.proofs.Common.{refl, add-one}
use Rattle.cipher.specs.Rounds.{rounds}
use Rattle.cipher.proofs.rounds.mixed.Goals as goal

pub loop-init : goal.loop-init
unfolding rounds
loop-init g c k = refl

pub loop-preserved : goal.loop-preserved
unfolding rounds
loop-preserved g c k = let before = c.loop.invariant k in let turn = c.double_round.ensures k in rw add-one (cc)
