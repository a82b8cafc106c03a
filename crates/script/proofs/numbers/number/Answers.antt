use Rattle.std.proofs.Common.{rules}
use borrow.Author.Tests.{tests}
use Rattle.std.proofs.lemmas.Iterator.Adapters.{YieldsList-from_bytes}
use Rattle.script.specs.Numbers.{next_of}
use Rattle.script.proofs.Tries.{try_fold_is}
use Rattle.script.proofs.Fills.{number_is, number_within}
use Rattle.script.proofs.numbers.number.Goals as goal

pub returns : goal.returns
returns c =
    let folded = try_fold_is _ _ _ (next_of c.args.limit) _ (λ n b r f k. search (rules, tests)) c.args.word.now _ _ 0 c.try_fold.result (YieldsList-from_bytes c.args.word.now c.bytes.ensures.rest) c.try_fold.ensures.ran in
    record {
      exact = number_is c.args.limit c.args.word.now c.try_fold.result c.ok_or.result c.if-is_empty.ensures folded c.ok_or.ensures.value;
      within = number_within c.args.limit c.args.word.now c.try_fold.result c.ok_or.result folded c.ok_or.ensures.value;
    }
