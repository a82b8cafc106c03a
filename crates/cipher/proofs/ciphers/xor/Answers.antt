use Rattle.cipher.proofs.Zips.{turned_more, turned_all}
use Rattle.cipher.proofs.ciphers.xor.Goals as goal

pub loop-i-preserved : goal.loop-i-preserved
loop-i-preserved c = turned_more _ _ _ _ c.requires c.loop-i.invariant c.loop-i-test.true

pub returns : goal.returns
returns c = turned_all _ _ _ _ c.requires c.loop-i.invariant c.loop-i-test.false
