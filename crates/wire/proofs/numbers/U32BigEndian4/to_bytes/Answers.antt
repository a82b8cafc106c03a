use Rattle.std.proofs.Common.{◌∙◌}
use Rattle.wire.proofs.numbers.U32BigEndian4.to_bytes.Goals as goal
use Rattle.wire.proofs.Bigs.{four_bytes}

pub returns : goal.returns
returns c = c.to_be_bytes.ensures ∙ four_bytes c.args.self
