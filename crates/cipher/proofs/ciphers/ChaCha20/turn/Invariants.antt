use Rattle.std.proofs.Common.{◌-◌, length}
use Rattle.cipher.proofs.Pieces.{Going}
use Rattle.cipher.proofs.ciphers.ChaCha20.turn.Given as goal

abbrev pub invariant-loop-bytes : goal.invariant-loop-bytes
invariant-loop-bytes l = Going l.self.key l.self.nonce l.initial.bytes l.counter l.n l.at l.bytes

abbrev pub decreases-loop-bytes : goal.decreases-loop-bytes
decreases-loop-bytes l = length l.initial.bytes - l.at
