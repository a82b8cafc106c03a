use Rattle.std.proofs.Common.{refl, arith}
use Rattle.device.proofs.registers.Register.with.Goals as goal
use Rattle.device.proofs.Rows.{pushed_is}

pub returns : goal.returns
returns c = pushed_is c.args.self _ c.args.digest (omega arith) refl refl
