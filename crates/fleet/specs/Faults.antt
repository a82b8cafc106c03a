-- Why an event did not do what it is for.
use Rattle.verifier.specs.declared.judges.Fault.{Fault as JudgeFault}
use Rattle.verifier.specs.declared.judges.Fault.TheVariants as judge
use Rattle.fleet.specs.declared.fleets.Fault.{Fault}
use Rattle.fleet.specs.declared.fleets.Fault.TheVariants.{Refused, NoMemory}

-- what the fleet reports where a judge refuses, or finds no memory
abbrev pub fault_of : JudgeFault → Fault
fault_of (judge.Refused k) = Refused k
fault_of judge.NoMemory = NoMemory
