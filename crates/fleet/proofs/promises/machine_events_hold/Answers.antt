use Rattle.fleet.proofs.promises.machine_events_hold.Goals as goal
use Rattle.fleet.proofs.Acts.{machine_events}

pub returns : goal.returns
returns c = machine_events
