use Rattle.std.proofs.Common.{◌≡◌, drop}
use Rattle.std.specs.Slice.Iter.{iter_rest}
use Rattle.script.specs.Lines.{filled}
use Rattle.script.proofs.lines.places.Places.fill.Given as goal

-- what is left comes to the whole
abbrev pub invariant-loop-part : goal.invariant-loop-part
invariant-loop-part l = filled l.places (drop l.part-index l.parts) (iter_rest l.words) ≡ filled l.fn.self l.parts l.fn.words
