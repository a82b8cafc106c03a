use Rattle.std.proofs.Common.{◌==◌, ◌&&◌, ◌∙◌, ap}
use Rattle.device.proofs.chips.Thing.sealed_by.Goals as goal
use Rattle.device.proofs.Things.{content_eq}

pub returns : goal.returns
returns c = c.eq.ensures ∙ ap (λ b. (c.args.self.seal.chip == c.args.chip) && b) (content_eq c.args.self.seal.content c.args.self.content)
