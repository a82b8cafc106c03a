use Rattle.std.proofs.Common.{◌≡◌, ℕ, ◌+◌, ◌*◌, ◌%◌, [], drop, get_or, refl, ap, ◌∙◌, arith, lit<, length-drop}
use Rattle.std.proofs.lemmas.List.{get_or-drop, get_or-take, length-take-le}
use Rattle.hash.specs.Sha256.{compressed, rounds}
use Rattle.hash.specs.Words.{plus}
use Rattle.hash.proofs.Schedules.{ring_more, ring_start, rounds_more, first_rows, row_at, summed}
use Rattle.hash.proofs.blocks.compress.Goals as goal

pub loop-k-init : goal.loop-k-init
unfolding rounds
loop-k-init c = (ring_start _ _ c.load-w.ensures, refl)

pub loop-j-preserved : goal.loop-j-preserved
loop-j-preserved c =
    let k = c.loop-j.invariant in
    let j = c.loop-j.j in
    let w = c.loop-k.w in
    let t : ℕ = 16 * c.loop-k.k-index + j in (
      rw c.extend.ensures
          (ring_more _ c.loop-j.w t _ j (j + 1) ((j + 9) % 16) ((j + 14) % 16) k.0 (omega arith) (omega arith) (omega arith) (omega arith) (omega arith) (omega arith)),
      rounds_more _ _ w c.add-x.result c.loop-j.s _ _ _ j t _ c.step-next.ensures (λ n l. c.add-x.ensures n l ∙ ap (λ a. plus a (get_or w n 0)) (first_rows c.loop-k.k-index n [] (omega arith) l)) c.loop-k.invariant.0 refl (omega arith) refl (omega arith) k.1 (omega arith),
    )

pub loop-j-2-preserved : goal.loop-j-2-preserved
loop-j-2-preserved c =
    let k = c.loop-j-2.invariant in
    let j = c.loop-j-2.j in
    let w = c.loop-k.w in
    let t : ℕ = 16 * c.loop-k.k-index + j in (
      rw c.extend-in-loop-j-2.ensures
          (ring_more _ c.loop-j-2.w t _ j ((j + 1) % 16) ((j + 9) % 16) ((j + 14) % 16) k.0 (omega arith) (omega arith) (omega arith) (omega arith) (omega arith) (omega arith)),
      rounds_more _ _ w c.add-x.result c.loop-j-2.s _ _ _ j t _ c.step-next-in-loop-j-2.ensures (λ n l. c.add-x.ensures n l ∙ ap (λ a. plus a (get_or w n 0)) (first_rows c.loop-k.k-index n [] (omega arith) l)) c.loop-k.invariant.0 refl (omega arith) refl (omega arith) k.1 (omega arith),
    )

pub loop-x-preserved : goal.loop-x-preserved
loop-x-preserved c =
    let w = c.loop-k.w in
    let x = c.add-x-2.result in
    let i = c.loop-x.x-index in
    let n = length-take-le 8 x (omega arith) in
    rounds_more _ _ w x c.loop-x.s _ 48 (16 * c.loop-k.k-index) i _ _
    (λ a b e. c.step-next-in-loop-x.ensures a b (get_or-take 8 x i 0 (omega arith) ∙ e))
    (λ j l. c.add-x-2.ensures j l ∙ ap (λ a. plus a (get_or w j 0)) (row_at 3 j [] (lit< tt) l))
    c.loop-k.invariant.0 (omega arith) (omega arith) (omega arith) (omega arith) c.loop-x.invariant (omega arith)

pub loop-x-2-preserved : goal.loop-x-2-preserved
loop-x-2-preserved c =
    let w = c.loop-k.w in
    let x = c.add-x-2.result in
    let i = c.loop-x-2.x-index in
    let n = length-take-le 8 (drop 8 x) (simp length-drop (omega arith)) in
    rounds_more _ _ w x c.loop-x-2.s _ 48 (16 * c.loop-k.k-index) (8 + i) _ _
    (λ a b e. c.step-next-in-loop-x-2.ensures a b (get_or-take 8 (drop 8 x) i 0 (omega arith) ∙ get_or-drop 8 x i 0 ∙ e))
    (λ j l. c.add-x-2.ensures j l ∙ ap (λ a. plus a (get_or w j 0)) (row_at 3 j [] (lit< tt) l))
    c.loop-k.invariant.0 (omega arith) (omega arith) (omega arith) (omega arith) c.loop-x-2.invariant (omega arith)

pub returns : goal.returns
unfolding compressed
returns c =
    let x = c.add-x-2.result in
    let n = length-take-le 8 (drop 8 x) (simp length-drop (omega arith)) in
    let e : 56 + c.loop-x-2.x-index ≡ 64 = omega arith in
    let s = summed c.args.h c.loop-x-2.s c.add.result (omega arith) c.add.ensures in
    cc
