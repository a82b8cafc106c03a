use Rattle.std.proofs.Common.{ap}
use Rattle.std.proofs.lemmas.Slice.Eq.{slice_eq-Decides}
use Rattle.boot.proofs.disks.NamePartialEq.eq.Goals as goal
use Rattle.std.proofs.lemmas.Bool.Decides.{Decides-eqb}

pub returns : goal.returns
returns c = let h = slice_eq-Decides Decides-eqb _ _ _ c.eq.ensures in record { computes = c.eq.ensures; decides = ((λ t. λ i. record { bytes = h.0 t i }), λ e. h.1 (ap (λ d. d.bytes) e)) }
