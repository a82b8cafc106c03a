use Rattle.std.proofs.Common.{get_or, arith}
use Rattle.std.proofs.lemmas.List.{get_or_default}
use Rattle.std.proofs.lemmas.List.Edits.{map_over_more}
use Rattle.boot.specs.Disks.{unread, blank}
use Rattle.boot.proofs.disks.Disk.rewind.Goals as goal

pub loop-entry-preserved : goal.loop-entry-preserved
loop-entry-preserved c = map_over_more unread c.deref_mut-entry-items.result.now c.loop-entry.entry-items c.loop-entry.entry-index (get_or c.loop-entry.entry-items c.loop-entry.entry-index blank) (omega arith) c.loop-entry.invariant (get_or_default c.loop-entry.entry-items c.loop-entry.entry-index blank _ (omega arith))
