use Rattle.std.proofs.Common.{rules, ◌∙◌, [], arith}
use Rattle.cipher.specs.Blocks.{le32}
use Rattle.cipher.proofs.Serialised.{same_parts}
use Rattle.cipher.proofs.states.bytes_of.Goals as goal

pub returns : goal.returns
returns c =
    c.joined.ensures
    ∙ same_parts le32 c.map.result c.args.words (omega arith) (λ i l. let h = c.map.ensures.items.at i 0 [] (omega arith) in search rules)
