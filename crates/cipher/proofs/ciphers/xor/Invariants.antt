use Rattle.cipher.proofs.Zips.{Turned}
use Rattle.cipher.proofs.ciphers.xor.Given as goal

abbrev pub invariant-loop-i : goal.invariant-loop-i
invariant-loop-i l = Turned l.initial.bytes l.stream l.i l.bytes
