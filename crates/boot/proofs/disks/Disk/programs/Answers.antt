use Rattle.std.proofs.Common.{None, sym, ap, ◌∙◌, arith}
use Rattle.boot.specs.Disks.{took}
use Rattle.boot.proofs.Lists.{programs_next, programs_all}
use Rattle.boot.proofs.disks.Disk.programs.Goals as goal

pub loop-name-preserved : goal.loop-name-preserved
loop-name-preserved c = programs_next _ _ c.loop-name.programs c.args.names.now c.loop-name.name-index _ c.program.result _ _ (omega arith) c.program.ensures (ap (took c.loop-name.programs) c.in_ok-digest.was ∙ sym c.with.ensures ∙ c.in_ok-programs.was) c.loop-name.invariant

pub returns-in_err-digest : goal.returns-in_err-digest
returns-in_err-digest c = rw c.from_residual.ensures (programs_next _ _ c.loop-name.programs c.args.names.now c.loop-name.name-index _ c.program.result None _ (omega arith) c.program.ensures (ap (took c.loop-name.programs) c.in_err-digest.was) c.loop-name.invariant)

pub returns-in_err-programs : goal.returns-in_err-programs
returns-in_err-programs c = rw c.from_residual-in_err-programs.ensures (programs_next _ _ c.loop-name.programs c.args.names.now c.loop-name.name-index _ c.program.result None _ (omega arith) c.program.ensures (ap (took c.loop-name.programs) c.in_ok-digest.was ∙ sym c.with.ensures ∙ c.in_err-programs.was) c.loop-name.invariant)

pub returns : goal.returns
returns c = programs_all _ c.loop-name.programs c.args.names.now c.loop-name.name-index _ (omega arith) c.loop-name.invariant
