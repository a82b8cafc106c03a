use Rattle.std.proofs.Common.{sym, subst}
use Rattle.device.proofs.chips.Chip.switched_on.Goals as goal
use Rattle.device.proofs.Worlds.{switches}
use Rattle.device.specs.Commands.{with_register}
use Rattle.device.specs.Worlds.{Switches}

pub returns-clause-steps : goal.returns-clause-steps
returns-clause-steps c = subst (λ r. Switches c.args.self (with_register r c.args.self)) (sym c.empty-register.ensures) (switches c.args.self)
