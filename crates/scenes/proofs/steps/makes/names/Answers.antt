use Rattle.std.proofs.Common.{◌∙◌, rules, tests}
use Rattle.std.proofs.lemmas.Iterator.{YieldsList-from_slice}
use Rattle.std.proofs.lemmas.Iterator.Consumers.{YieldsList-from_copied}
use Rattle.script.proofs.Tries.{try_fold_is}
use Rattle.scenes.specs.Steps.{added_name, no_names}
use Rattle.scenes.proofs.Folds.{lists}
use Rattle.scenes.proofs.steps.makes.names.Goals as goal

pub returns : goal.returns
returns c = try_fold_is _ _ _ added_name _ (λ s l o f k. search (rules, tests)) c.args.programs.now _ _ (no_names c.args.further) c.try_fold.result (YieldsList-from_copied (YieldsList-from_slice c.args.programs.now cc)) c.try_fold.ensures.ran ∙ lists (no_names c.args.further) c.args.programs.now
