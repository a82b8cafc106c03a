use Rattle.std.proofs.Common.{ap, ◌∙◌}
use Rattle.device.specs.Things.{same_data}
use Rattle.verifier.specs.Searches.{some}
use Rattle.verifier.proofs.Searches.{some_any}
use Rattle.fleet.proofs.Searches.{data_turned}
use Rattle.fleet.proofs.fleets.Fleet.has.Goals as goal

pub returns : goal.returns
returns c = rw (← c.self.view_is) (c.contains.ensures.value ∙ some_any (same_data c.args.«data») _ (λ d. data_turned c.args.«data» d) c.deref.result.now ∙ ap (some (same_data c.args.«data»)) c.deref.ensures.value)
