use Rattle.std.proofs.Common.{refl}
use Rattle.device.proofs.registers.Register.empty.Goals as goal
use Rattle.device.proofs.Rows.{register_is}

pub returns : goal.returns
returns c = register_is _ _ refl refl
