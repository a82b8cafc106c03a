use Rattle.wire.specs.Layouts.{big}
use Rattle.orders.proofs.things.Thing.write.Goals as goal

pub returns : goal.returns
unfolding big
returns c = c.write_headed.ensures
