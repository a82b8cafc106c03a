use Rattle.std.proofs.Common.{ap, ◌∙◌}
use Rattle.std.proofs.lemmas.Bool.Decides.{same_from_decides}
use Rattle.vectors.specs.Tallies.{counted}
use Rattle.vectors.proofs.rows.Report.print.Goals as goal

pub returns : goal.returns
returns c =
    record {
      counts = λ b d. c.count.ensures.exact ∙ ap (counted c.args.self.now.tally) (same_from_decides _ b c.equal-agree.ensures d);
      keeps = c.count.ensures.keeps;
    }
