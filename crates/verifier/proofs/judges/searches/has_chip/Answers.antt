use Rattle.std.proofs.Common.{eqb, ◌∙◌}
use Rattle.verifier.proofs.judges.searches.has_chip.Goals as goal
use Rattle.verifier.proofs.Searches.{some_any}
use Rattle.verifier.proofs.Tests.{same_number_turned}

pub returns : goal.returns
returns c = c.contains.ensures.value ∙ some_any (eqb c.args.chip) _ (λ x. same_number_turned c.args.chip x) c.args.chips.now
