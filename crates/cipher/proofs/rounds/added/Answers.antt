use Rattle.std.proofs.Common.{rules, arith}
use Rattle.cipher.proofs.Sums.{same_sums}
use Rattle.cipher.proofs.rounds.added.Goals as goal

pub returns : goal.returns
returns g c k =
    same_sums (g.W.Word.lane k) c.from_fn.result c.args.t c.args.s (omega arith) (omega arith) (omega arith)
    (λ i w l. let h = c.from_fn.ensures.items.at i w l in search rules)
