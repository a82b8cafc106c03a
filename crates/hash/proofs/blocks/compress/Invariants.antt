use Rattle.std.proofs.Common.{◌≡◌, ◌+◌, ◌*◌}
use Rattle.hash.specs.Sha256.{rounds, schedule}
use Rattle.hash.proofs.Schedules.{Ring}
use Rattle.hash.proofs.blocks.compress.Given as goal

abbrev pub invariant-loop-k : goal.invariant-loop-k
invariant-loop-k l = Ring l.block l.w (16 * l.k-index) × (l.s ≡ rounds l.h (schedule l.block 64) (16 * l.k-index))

abbrev pub invariant-loop-j : goal.invariant-loop-j
invariant-loop-j l =
    Ring l.block l.w (16 * l.k-index + l.j) × (l.s ≡ rounds l.h (schedule l.block 64) (16 * l.k-index + l.j))

abbrev pub invariant-loop-j-2 : goal.invariant-loop-j-2
invariant-loop-j-2 l =
    Ring l.block l.w (16 * l.k-index + l.j) × (l.s ≡ rounds l.h (schedule l.block 64) (16 * l.k-index + l.j))

abbrev pub invariant-loop-x : goal.invariant-loop-x
invariant-loop-x l = l.s ≡ rounds l.h (schedule l.block 64) (48 + l.x-index)

abbrev pub invariant-loop-x-2 : goal.invariant-loop-x-2
invariant-loop-x-2 l = l.s ≡ rounds l.h (schedule l.block 64) (56 + l.x-index)
