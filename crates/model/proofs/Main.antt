-- The promise of the whole, from its parts.
use Rattle.model.specs.Promise.{Main}
use Rattle.model.proofs.Acceptances.{acceptances}
use Rattle.model.proofs.Secrecy.{secrecy}
use Rattle.model.proofs.Openings.{openings, counters, numbers, registers}
use Rattle.model.proofs.Liveness.{liveness}

pub main : Main
main pr k w l = record { acceptances = acceptances l; secrecy = secrecy l; openings = openings l; counters = counters l; numbers = numbers l; registers = registers l; liveness = liveness pr w }
