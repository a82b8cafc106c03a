use Rattle.std.proofs.Common.{refl}
use Rattle.hash.proofs.Messages.{finished_is}
use Rattle.hash.proofs.endings.finish.Goals as goal

pub returns : goal.returns
returns c =
    let cut = c.as_chunks.ensures in
    finished_is c.args.h c.args.input.now _ _ _ _ _ c.args.taken _ cut.front cut.back c.absorb.ensures c.fill.ensures refl c.requires c.close.ensures
