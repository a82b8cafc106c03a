use Rattle.std.proofs.Common.{◌∙◌, rules}
use Rattle.wire.proofs.numbers.U8BigEndian1.to_bytes.Goals as goal
use Rattle.wire.proofs.Bigs.{one_byte}

pub returns : goal.returns
returns c = c.to_be_bytes.ensures ∙ one_byte c.args.self (search rules)
