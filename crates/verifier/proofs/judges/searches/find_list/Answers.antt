use Rattle.std.proofs.Common.{eqb, ◌∙◌, rules, tests}
use Rattle.std.proofs.lemmas.Iterator.{YieldsList-from_slice}
use Rattle.std.proofs.lemmas.Iterator.Search.{find_from_yields_List}
use Rattle.verifier.proofs.judges.searches.find_list.Goals as goal
use Rattle.verifier.specs.Searches.{has_number}
use Rattle.verifier.proofs.Searches.{seek_find}
use Rattle.verifier.proofs.Tests.{same_number_turned}

pub returns : goal.returns
returns c = c.copied.ensures ∙ find_from_yields_List (λ l. eqb l.number c.args.number) _ _ c.find.result c.find.ensures.ran (YieldsList-from_slice c.args.lists.now cc) (λ x b q k. search (rules, tests)) ∙ seek_find (has_number c.args.number) _ (λ l. same_number_turned c.args.number l.number) c.args.lists.now
