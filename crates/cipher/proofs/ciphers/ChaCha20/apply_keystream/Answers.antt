use Rattle.std.proofs.Common.{ap, ◌∙◌}
use Rattle.cipher.specs.Streams.{chacha20}
use Rattle.cipher.proofs.Lawful.{turned_back}
use Rattle.cipher.proofs.ciphers.ChaCha20.apply_keystream.Goals as goal

pub returns-clause-back : goal.returns-clause-back
returns-clause-back c = ap (chacha20 c.args.self.key c.args.counter c.args.self.nonce) c.turn.ensures ∙ turned_back _ _ _ _
