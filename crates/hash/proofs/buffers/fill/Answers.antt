use Rattle.hash.proofs.Fillings.{fill_is}
use Rattle.hash.proofs.buffers.fill.Goals as goal

pub returns : goal.returns
returns c = fill_is c.args.part.now c.copy_from_slice.new.self c.copy_from_slice.ensures.after
