use Rattle.std.proofs.Common.{◌≡◌, ◌++◌, map, take, drop}
use Rattle.boot.specs.Disks.{unread}
use Rattle.boot.proofs.disks.Disk.rewind.Given as goal

abbrev pub invariant-loop-entry : goal.invariant-loop-entry
invariant-loop-entry l = l.entry-items ≡ map unread (take l.entry-index l.initial.entry-items) ++ drop l.entry-index l.initial.entry-items
