use Rattle.std.proofs.Common.{◌≡◌, drop}
use Rattle.device.specs.Rows.{empty_register}
use Rattle.scenes.specs.Steps.{row_from}
use Rattle.scenes.proofs.steps.makes.row.Given as goal

-- what is left comes to the whole
abbrev pub invariant-loop-program : goal.invariant-loop-program
invariant-loop-program l = row_from l.row (drop l.program-index l.programs) ≡ row_from empty_register l.programs
