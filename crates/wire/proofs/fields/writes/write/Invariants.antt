use Rattle.wire.proofs.FieldWrites.{Sofar}
use Rattle.wire.proofs.fields.writes.write.Given as goal

abbrev pub invariant-loop-field : goal.invariant-loop-field
invariant-loop-field l = Sofar l.fields l.field-index l.at l.initial.out l.out
