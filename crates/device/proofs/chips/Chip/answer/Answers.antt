use Rattle.device.proofs.chips.Chip.answer.Goals as goal
use Rattle.device.proofs.Worlds.{stepped}

pub returns-clause-steps : goal.returns-clause-steps
returns-clause-steps c = stepped c.args.self c.args.command _ c.reply.ensures
