use Rattle.slots.proofs.laws.survives.Goals as goal
use Rattle.slots.proofs.Histories as proof

pub returns : goal.returns
returns c = proof.survives
