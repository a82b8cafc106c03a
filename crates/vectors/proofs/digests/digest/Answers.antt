use Rattle.std.proofs.Common.{◌≡◌, sym, ap, ◌∙◌, add-one, arith}
use Rattle.hash.specs.Hashers.{after}
use Rattle.hash.specs.Sha256.{sha256}
use Rattle.vectors.specs.Repeats.{repeated}
use Rattle.vectors.proofs.digests.digest.Goals as goal

pub returns-then-times-eq1 : goal.returns-then-times-eq1
unfolding repeated
returns-then-times-eq1 c =
    c.sha256.ensures ∙ ap (λ i. sha256 (repeated c.args.part.now i)) (sym c.if-times-eq1.true)

pub loop-init : goal.loop-init
unfolding repeated
loop-init c = c.new-hasher.ensures

pub loop-preserved : goal.loop-preserved
unfolding repeated
loop-preserved c = rw add-one (c.update-hasher.ensures _ c.loop.invariant)

pub returns : goal.returns
returns c =
    let n : c.loop.counter ≡ c.args.times = omega arith in
    c.finish.ensures _ (c.loop.invariant ∙ ap (λ i. after (repeated c.args.part.now i)) n)
