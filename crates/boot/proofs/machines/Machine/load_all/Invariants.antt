use Rattle.std.proofs.Common.{◌≡◌, drop}
use Rattle.device.specs.Rows.{row}
use Rattle.boot.specs.Machines.{load_all_of}
use Rattle.boot.proofs.machines.Machine.load_all.Given as goal

-- what is left to load comes to the whole
abbrev pub invariant-loop-digest : goal.invariant-loop-digest
invariant-loop-digest l = load_all_of l.machine (drop l.digest-index l.digest-items) ≡ load_all_of l.fn.self (row l.fn.programs)
