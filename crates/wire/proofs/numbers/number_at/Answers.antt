use Rattle.std.proofs.Common.{ap, ◌∙◌}
use Rattle.std.specs.Int.Digits.{number_from_digits}
use Rattle.wire.proofs.numbers.number_at.Goals as goal
use Rattle.wire.proofs.Bigs.{number_of_part}

pub returns : goal.returns
returns g c = c.from_bytes.ensures ∙ ap (number_from_digits 256) c.bytes_at.ensures ∙ number_of_part g.row.N c.args.at c.args.word.now
