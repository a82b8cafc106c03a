use Rattle.std.proofs.Common.{sym, ap, ◌∙◌}
use Rattle.std.specs.Option.{option_copied}
use Rattle.script.specs.Lines.{ended_of}
use Rattle.script.proofs.Shapes.{ended_is}
use Rattle.script.proofs.lines.places.Places.end.Goals as goal

pub returns-in_ok-name-in-Some : goal.returns-in_ok-name-in-Some
returns-in_ok-name-in-Some c = ended_is c.args.self c.in-Some.field-0 c.args.words.now c.in_ok-name-in-Some.name.now _ (sym (ap option_copied c.in_ok-name-in-Some.ensures.ok_part) ∙ c.last.ensures.value) c.put.ensures ∙ ap (λ s. ended_of c.args.self s c.args.words.now) (sym c.in-Some.is)
