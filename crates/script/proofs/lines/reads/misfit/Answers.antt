use Rattle.std.proofs.Common.{cond, sym, ap, ◌∙◌, rules}
use borrow.Author.Tests.{tests}
use Rattle.std.proofs.lemmas.Iterator.{YieldsList-from_slice}
use Rattle.std.proofs.lemmas.Iterator.Search.{any_from_yields_List}
use Rattle.script.specs.declared.faults.Fault.TheVariants.{Shape, Unknown}
use Rattle.script.specs.Verbs.{verbs, verb_text}
use Rattle.script.specs.Texts.{same_text}
use Rattle.script.proofs.Shapes.{misfits}
use Rattle.script.proofs.lines.reads.misfit.Goals as goal

pub returns-then-any : goal.returns-then-any
returns-then-any c =
    let found = any_from_yields_List (λ v. same_text c.args.word.now (verb_text v)) _ _ c.any.result c.any.ensures.ran (YieldsList-from_slice verbs (cc)) (λ x b q k. search (rules, tests)) in
    ap (λ b. cond b Shape Unknown) (sym c.if-any.true ∙ found) ∙ misfits c.args.word.now verbs

pub returns-else-any : goal.returns-else-any
returns-else-any c =
    let found = any_from_yields_List (λ v. same_text c.args.word.now (verb_text v)) _ _ c.any.result c.any.ensures.ran (YieldsList-from_slice verbs (cc)) (λ x b q k. search (rules, tests)) in
    ap (λ b. cond b Shape Unknown) (sym c.if-any.false ∙ found) ∙ misfits c.args.word.now verbs
