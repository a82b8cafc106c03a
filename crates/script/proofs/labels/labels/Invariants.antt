use Rattle.std.proofs.Common.{◌≡◌, [], drop, vec_items}
use Rattle.script.specs.Labels.{labels_of}
use Rattle.script.proofs.labels.labels.Given as goal

-- what is left comes to the whole
abbrev pub invariant-loop-word : goal.invariant-loop-word
invariant-loop-word l = labels_of (vec_items l.labels) (drop l.word-index l.words) ≡ labels_of [] l.words
