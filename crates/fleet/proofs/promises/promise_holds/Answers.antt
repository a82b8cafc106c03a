use Rattle.fleet.proofs.promises.promise_holds.Goals as goal
use Rattle.fleet.proofs.Plays.{plays, fleet_promise}

pub returns : goal.returns
returns c = record { plays = plays; promise = fleet_promise }
