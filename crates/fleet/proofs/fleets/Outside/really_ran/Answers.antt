use Rattle.std.proofs.Common.{vec_items, rules, tests}
use Rattle.std.proofs.lemmas.Iterator.{YieldsList-from_slice}
use Rattle.std.proofs.lemmas.Iterator.Search.{find_from_yields_List}
use Rattle.device.specs.contracts.chips.SignaturePartialEq.TheImpl as derived
use Rattle.fleet.proofs.Searches.{find_ran}
use Rattle.fleet.proofs.fleets.Outside.really_ran.Goals as goal

pub returns : goal.returns
returns c =
    find_ran c.args.signature (vec_items c.args.self.now.shown) c.find.result c.map.result _ c.map.ensures.cases (λ x y p. search rules) (find_from_yields_List (λ x. derived.ghosts.eq c.args.signature x.signature) _ _ c.find.result c.find.ensures.ran (YieldsList-from_slice (vec_items c.args.self.now.shown) cc) (λ x b q k. search (rules, tests)))
