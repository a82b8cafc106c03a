use Rattle.std.proofs.Common.{◌++◌, ap, ◌∙◌, rules}
use Rattle.wire.specs.Layouts.{big, encoded}
use Rattle.orders.specs.Things.{shown_thing}
use Rattle.orders.specs.Writes.{fits_thing, writes}
use Rattle.orders.proofs.things.Thing.write_after.Goals as goal
use Rattle.wire.proofs.Bigs.{one_byte}

pub returns : goal.returns
unfolding big
returns c = c.write_headed.ensures ∙ ap (λ first. writes (fits_thing c.args.self) (first ++ encoded (shown_thing c.args.self)) c.args.out.now) (one_byte c.args.kind (search rules))
