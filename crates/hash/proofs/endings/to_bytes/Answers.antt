use Rattle.std.proofs.Common.{◌∙◌, [], ap, arith, rules}
use Rattle.std.specs.List.{flat_map}
use Rattle.std.proofs.lemmas.List.Folds.{flat_map-map}
use Rattle.hash.specs.Words.{be32}
use Rattle.hash.proofs.Arrays.{mapped}
use Rattle.hash.proofs.endings.to_bytes.Goals as goal

pub returns : goal.returns
returns c =
    let e = mapped _ _ be32 c.args.h c.map.result 8 0 [] (λ i h y q k. search rules) (omega arith) c.map.ensures.items in
    c.copy_from_slice.ensures.after ∙ c.as_flattened.ensures.value ∙ ap (flat_map (λ x. x)) e ∙ flat_map-map (λ x. x) be32 c.args.h
