use Rattle.sums.proofs.laws.collisions.Goals as goal
use Rattle.sums.proofs.Collisions.{colliding, sha256_collides}

pub returns : goal.returns
returns c = record { any = colliding; this = sha256_collides }
