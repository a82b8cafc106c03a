use Rattle.std.proofs.Common.{◌≡◌, ◌<◌, ap, ◌∙◌, arith, rules}
use Rattle.std.specs.List.{fold}
use Rattle.wire.proofs.fields.writes.total.Goals as goal
use Rattle.wire.proofs.FieldWrites.{with, within, told_within, untold_within, either}

pub returns : goal.returns
returns c =
    let run = c.try_fold.ensures.runs in
    let reads = c.iter.ensures.runs run.0 run.0.seen in
    let rest : run.0.from.rest.now ≡ c.args.fields.now = ap (λ s. s.rest.now) run.1 ∙ c.iter.ensures.rest in
    either run.0.whole run.2
    (λ w t. told_within c.args.fields.now c.args.limit c.try_fold.result t.0 t.1
    (t.2 (λ n f. within c.args.limit n f.now) (λ b x v k f' e h. search rules) ∙ reads.5 (within c.args.limit) 0 w ∙ ap (fold (within c.args.limit) 0) rest)
    (t.2 (λ n f. with n f.now) (λ b x v k f' e h. search rules) ∙ reads.5 with 0 w ∙ ap (fold with 0) rest))
    (λ w t. untold_within c.args.fields.now c.args.limit c.try_fold.result (search rules)
    (let last = t.3.9 (λ n f. with n f.now) (λ b x v k f' e h. search rules) in
    let large : c.args.limit < with t.3.1 t.3.0.now = search rules in
    let most = reads.7 with 0 (λ n f. omega arith) in
    omega (arith, large, most, last.0, ap (fold with 0) rest)))
