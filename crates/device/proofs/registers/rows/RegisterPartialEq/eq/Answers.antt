use Rattle.std.proofs.Common.{◌≡◌, refl}
use Rattle.device.proofs.registers.rows.RegisterPartialEq.eq.Goals as goal
use Rattle.device.proofs.Rows.{same_digests_decides}
use Rattle.device.specs.Rows.{row, same_row}

pub returns : goal.returns
returns c = let is : c.eq.result ≡ same_row c.args.self.now c.args.other.now = rw (c.eq.ensures, c.as_slice.ensures, c.as_slice-2.ensures) refl in record { computes = is; decides = rw is (same_digests_decides (row c.args.self.now) (row c.args.other.now)) }
