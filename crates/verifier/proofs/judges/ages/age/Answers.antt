use Rattle.std.proofs.Common.{rules, tests}
use Rattle.verifier.proofs.judges.ages.age.Goals as goal
use Rattle.verifier.proofs.Ages.{retained_aged}

pub returns : goal.returns
returns c = retained_aged _ c.args.ticks _ (λ q b t r k. search (rules, tests)) _ _ c.retain_mut.ensures.filtered
