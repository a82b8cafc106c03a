use Rattle.std.proofs.Common.{length, arith, length-append}
use Rattle.std.proofs.lemmas.Slice.Zip.{zip_end, zip_turn}
use Rattle.hash.proofs.Similar.{agree_all, agree_more}
use Rattle.hash.proofs.comparisons.equal.Goals as goal

pub loop-x-preserved : goal.loop-x-preserved
loop-x-preserved c =
    let a = c.args.a.now in
    let b = c.args.b.now in
    let t = zip_turn a b c.loop-x.yielded c.into_iter-x-iterator.result c.loop-x.x-iterator c.next.new.self c.next.result (cc) (cc) c.loop-x.yielded_by (c.in-Some.x, c.in-Some.y) c.in-Some.is c.next.ensures.steps in
    rw (length-append, t.2 0, t.3 0) (agree_more a b (length c.loop-x.yielded) c.loop-x.differ c.loop-x.invariant t.0 t.1)

pub returns : goal.returns
returns c =
    let n = zip_end c.args.a.now c.args.b.now c.loop-x.yielded c.into_iter-x-iterator.result c.loop-x.x-iterator c.next.new.self c.next.result (cc) (cc) c.loop-x.yielded_by c.in-None.is c.next.ensures.steps in
    agree_all c.args.a.now c.args.b.now (length c.loop-x.yielded) c.loop-x.differ c.loop-x.invariant (grind arith) (grind arith)
