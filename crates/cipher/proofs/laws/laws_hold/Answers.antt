use Rattle.cipher.proofs.Lawful.{laws}
use Rattle.cipher.proofs.laws.laws_hold.Goals as goal

pub returns : goal.returns
returns c = laws
