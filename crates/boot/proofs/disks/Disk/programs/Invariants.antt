use Rattle.std.proofs.Common.{◌≡◌, drop}
use Rattle.device.specs.Rows.{empty_register}
use Rattle.boot.specs.Disks.{programs_of}
use Rattle.boot.proofs.disks.Disk.programs.Given as goal

-- what is left to read comes to the whole
abbrev pub invariant-loop-name : goal.invariant-loop-name
invariant-loop-name l = programs_of l.self l.programs (drop l.name-index l.names) ≡ programs_of l.initial.self empty_register l.names
