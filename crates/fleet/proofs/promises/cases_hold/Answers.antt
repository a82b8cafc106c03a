use Rattle.fleet.proofs.promises.cases_hold.Goals as goal
use Rattle.fleet.proofs.Cases.{cases_hold_lem}
use Rattle.fleet.proofs.Covered.{covered}

pub returns : goal.returns
returns c = record { cases = cases_hold_lem; covered = covered }
