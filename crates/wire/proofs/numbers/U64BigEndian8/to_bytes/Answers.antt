use Rattle.std.proofs.Common.{◌∙◌}
use Rattle.wire.proofs.numbers.U64BigEndian8.to_bytes.Goals as goal
use Rattle.wire.proofs.Bigs.{eight_bytes}

pub returns : goal.returns
returns c = c.to_be_bytes.ensures ∙ eight_bytes c.args.self
