use Rattle.std.proofs.Common.{true, false, arith}
use borrow.Author.Tests.{ltb-true}
use Rattle.script.proofs.Shapes.{suffix_is, suffix_short}
use Rattle.script.proofs.lines.forms.before_suffix.Goals as goal
use Rattle.script.proofs.lines.forms.before_suffix.Goals.{in_default-via-then-words-lt2, in_default-via-in-len2-up+else-eq}

pub returns-in-len2-up : goal.returns-in-len2-up
returns-in-len2-up c = suffix_is c.args.key c.args.words.now _ _ true c.in-len2-up.len_at_least c.text.ensures c.if-eq.ensures

pub returns-in_default : goal.returns-in_default
returns-in_default c = elim c.in_default.branch [
  | in_default-via-then-words-lt2 w ↦ suffix_short c.args.key c.args.words.now (omega (arith, ltb-true))
  | in_default-via-in-len2-up+else-eq w ↦ suffix_is c.args.key c.args.words.now _ _ false w.in-len2-up.len_at_least w.text.ensures w.if-eq.ensures
]
