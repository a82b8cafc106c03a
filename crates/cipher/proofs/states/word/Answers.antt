use Rattle.std.proofs.Common.{◌/◌, length, arith}
use Rattle.cipher.proofs.Serialised.{word_at}
use Rattle.cipher.proofs.states.word.Goals as goal

pub returns : goal.returns
returns c = word_at c.args.bytes.now c.as_chunks.result.0.now (length c.args.bytes.now / 4) c.args.i _ (omega arith) c.as_chunks.ensures.front c.from_le_bytes.ensures
