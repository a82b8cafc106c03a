use Rattle.std.proofs.Common.{◌∙◌}
use Rattle.verifier.proofs.judges.words.begins.Goals as goal
use Rattle.verifier.proofs.Tests.{begins_first}

pub returns : goal.returns
returns c = c.eq.ensures ∙ begins_first c.args.digests.now _ c.first.result c.first.ensures.value
