use Rattle.std.proofs.Common.{sym, ◌∙◌, rules}
use borrow.Author.Tests.{tests}
use Rattle.std.proofs.lemmas.Iterator.{YieldsList-from_slice}
use Rattle.std.proofs.lemmas.Iterator.Adapters.{option_map_id}
use Rattle.std.proofs.lemmas.Iterator.Consumers.{YieldsList-from_copied}
use Rattle.std.proofs.lemmas.Iterator.Search.{find_from_yields_List}
use Rattle.script.specs.Verbs.{verbs}
use Rattle.script.specs.Forms.{begins}
use Rattle.script.proofs.Shapes.{suiting}
use Rattle.script.proofs.lines.reads.choose.Goals as goal

pub returns : goal.returns
returns c =
    let found = find_from_yields_List (begins c.args.word.now c.args.rest.now) _ _ c.find.result c.find.ensures.ran (YieldsList-from_copied (YieldsList-from_slice verbs (cc))) (λ x b q k. search (rules, tests)) in
    sym (option_map_id c.find.result) ∙ found ∙ suiting c.args.word.now c.args.rest.now verbs
