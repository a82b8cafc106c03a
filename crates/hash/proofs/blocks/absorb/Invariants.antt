use Rattle.std.proofs.Common.{◌≡◌, take, fold}
use Rattle.hash.specs.Sha256.{compressed}
use Rattle.hash.proofs.blocks.absorb.Given as goal

abbrev pub invariant-loop-block : goal.invariant-loop-block
invariant-loop-block l = l.s ≡ fold compressed l.initial.s (take l.block-index l.blocks)
