use Rattle.std.proofs.Common.{◌∙◌}
use Rattle.verifier.proofs.judges.searches.has_digest.Goals as goal
use Rattle.verifier.specs.Searches.{is_digest}
use Rattle.verifier.proofs.Searches.{some_any}
use Rattle.verifier.proofs.Tests.{is_digest_turned}

pub returns : goal.returns
returns c = c.contains.ensures.value ∙ some_any (is_digest c.args.digest) _ (λ d. is_digest_turned c.args.digest d) c.args.digests.now
