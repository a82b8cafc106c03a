use Rattle.std.proofs.Common.{◌∙◌}
use Rattle.wire.proofs.numbers.U16BigEndian2.to_bytes.Goals as goal
use Rattle.wire.proofs.Bigs.{two_bytes}

pub returns : goal.returns
returns c = c.to_be_bytes.ensures ∙ two_bytes c.args.self
