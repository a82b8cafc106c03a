use Rattle.std.proofs.Common.{◌≡◌, ℕ, ◌<◌, ◌≤◌, ◌↔◌, true, length, get_or, arith, false-eqb, sym, ◌∙◌, rules}
use Rattle.orders.proofs.answers.reads.are_flags.Goals as goal
use Rattle.orders.proofs.AnswerWords.{flagged_is}

pub returns-then-part-le-MOST_LISTED : goal.returns-then-part-le-MOST_LISTED
returns-then-part-le-MOST_LISTED c =
    let some : 1 ≤ length c.args.part.now = omega (arith, false-eqb _ 0 (sym c.if-part-le-MOST_LISTED.true.0 ∙ c.is_empty.ensures)) in
    let each : c.all.result ≡ true ↔ ((k : ℕ) → k < length c.args.part.now → get_or c.args.part.now k 0 ≤ 1) = search rules in
    flagged_is c.args.part.now c.all.result some c.if-part-le-MOST_LISTED.true.1 each
