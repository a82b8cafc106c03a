use Rattle.std.proofs.Common.{None, sym, ◌∙◌, arith}
use Rattle.boot.proofs.Loads.{load_next, load_done}
use Rattle.boot.proofs.machines.Machine.load_all.Goals as goal

pub loop-digest-preserved : goal.loop-digest-preserved
loop-digest-preserved c = load_next c.loop-digest.machine c.as_slice-digest-items.result.now c.loop-digest.digest-index _ _ _ (omega arith) (sym c.in_ok-machine.was ∙ c.load.ensures) c.loop-digest.invariant

pub returns-in_err-machine : goal.returns-in_err-machine
returns-in_err-machine c = rw c.from_residual.ensures (load_next c.loop-digest.machine c.as_slice-digest-items.result.now c.loop-digest.digest-index _ None _ (omega arith) (sym c.in_err-machine.was ∙ c.load.ensures) c.loop-digest.invariant)

pub returns : goal.returns
returns c = load_done c.loop-digest.machine c.as_slice-digest-items.result.now c.loop-digest.digest-index _ (omega arith) c.loop-digest.invariant
