use Rattle.std.proofs.Common.{◌∙◌}
use Rattle.hash.specs.Sha256.{initial}
use Rattle.hash.proofs.Messages.{sha256_finished}
use Rattle.hash.proofs.digests.sha256.Goals as goal

pub returns : goal.returns
unfolding initial
returns c = c.finish.ensures ∙ sha256_finished c.args.input.now
