-- What == and `same_name` say of names: whether they are the same.
use Rattle.std.proofs.Common.{◌≡◌, Decides, ap}
use Rattle.std.proofs.lemmas.Slice.Eq.{bytes_eq-Decides}
use Rattle.boot.specs.declared.disks.Name.{Name}
use Rattle.boot.specs.Disks.{same_name}
use Rattle.boot.specs.contracts.disks.NamePartialEq.TheImpl as name

pub name_eq_decides : (m n : Name) → Decides (name.ghosts.eq m n) (m ≡ n)
name_eq_decides m n = let h = bytes_eq-Decides m.bytes n.bytes in ((λ t. λ i. record { bytes = h.0 t i }), λ p. h.1 (ap (λ x. x.bytes) p))

pub same_name_decides : (m n : Name) → Decides (same_name m n) (m ≡ n)
same_name_decides = name_eq_decides
