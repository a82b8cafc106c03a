use Rattle.std.proofs.Common.{vec_items, ◌∙◌, rules, tests}
use Rattle.std.specs.List.{list_any}
use Rattle.std.specs.Str.{bytes_eq}
use Rattle.std.proofs.lemmas.Iterator.{YieldsList-from_slice}
use Rattle.std.proofs.lemmas.Iterator.Search.{any_from_yields_List}
use Rattle.device.specs.Rows.{row}
use Rattle.fleet.proofs.Searches.{has_bad}
use Rattle.fleet.proofs.fleets.Outside.tainted.Goals as goal

pub returns : goal.returns
returns c = any_from_yields_List (λ d. list_any (λ e. bytes_eq e.bytes d.bytes) (vec_items c.args.self.now.bad)) _ _ c.any.result c.any.ensures.ran (YieldsList-from_slice (row c.args.ran) cc) (λ x b q k. search (rules, tests)) ∙ has_bad (vec_items c.args.self.now.bad) (row c.args.ran)
