-- What == says of targets and contents is what the tests on them say.
use Rattle.std.proofs.Common.{◌≡◌, Bool, true, false, ◌&&◌, ◌==◌, Decides, ap, refl}
use Rattle.std.proofs.lemmas.Slice.Eq.{bytes_eq-Decides}
use Rattle.device.specs.declared.chips.Content.{Content}
use Rattle.device.specs.declared.chips.Target.{Target}
use Rattle.device.specs.declared.chips.Target.TheVariants.{Row, Nowhere}
use Rattle.device.specs.declared.digests.Data.{Data}
use Rattle.device.specs.contracts.chips.ContentPartialEq.TheImpl as content
use Rattle.device.specs.contracts.chips.TargetPartialEq.TheImpl as target
use Rattle.device.specs.Things.{same_data, same_target, same_content}

pub same_data_decides : (d e : Data) → Decides (same_data d e) (d ≡ e)
unfolding same_data
same_data_decides d e = let h = bytes_eq-Decides d.bytes e.bytes in ((λ t. λ i. record { bytes = h.0 t i }), λ p. h.1 (ap (λ x. x.bytes) p))

pub target_eq : (t u : Target) → target.ghosts.eq t u ≡ same_target t u
target_eq (Row r) (Row s) = refl
target_eq (Row r) Nowhere = refl
target_eq Nowhere (Row s) = refl
target_eq Nowhere Nowhere = refl

pub content_eq : (x y : Content) → content.ghosts.eq x y ≡ same_content x y
unfolding same_data
content_eq x y = by (x.number == y.number) (x.counter == y.counter) (target.ghosts.eq x.target y.target) _ (same_data x.«data» y.«data») (target_eq x.target y.target)
  where
    by : (a b t u d : Bool) → t ≡ u → a && (t && (b && d)) ≡ a && b && u && d
    by false b t u d e = refl
    by true false false u d e = refl
    by true false true u d e = refl
    by true true t u d e = ap (λ v. v && d) e
