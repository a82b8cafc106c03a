use Rattle.std.proofs.Common.{sym, ap, ◌∙◌, rules, tests}
use Rattle.std.specs.Option.{option_map}
use Rattle.std.proofs.lemmas.Iterator.{YieldsList-from_slice}
use Rattle.std.proofs.lemmas.Iterator.Search.{find_from_yields_List}
use Rattle.script.specs.Labels.{same_label}
use Rattle.scenes.proofs.Folds.{latest_found}
use Rattle.scenes.proofs.stages.looks.find.Goals as goal

pub returns-in_err-latest : goal.returns-in_err-latest
returns-in_err-latest c =
    let sought = find_from_yields_List (λ k. same_label k.name c.args.name) _ _ c.find.result c.find.ensures.ran (YieldsList-from_slice c.args.kept.now cc) (λ x b q k. search (rules, tests)) in
    rw c.from_residual.ensures (ap (λ o. option_map (λ k. k.answer) (option_map (λ y. y.now) o)) (sym c.in_err-latest.was) ∙ ap (option_map (λ k. k.answer)) sought ∙ latest_found c.args.name c.args.kept.now)

pub returns : goal.returns
returns c =
    let sought = find_from_yields_List (λ k. same_label k.name c.args.name) _ _ c.find.result c.find.ensures.ran (YieldsList-from_slice c.args.kept.now cc) (λ x b q k. search (rules, tests)) in
    ap (λ o. option_map (λ k. k.answer) (option_map (λ y. y.now) o)) (sym c.in_ok-latest.was) ∙ ap (option_map (λ k. k.answer)) sought ∙ latest_found c.args.name c.args.kept.now
