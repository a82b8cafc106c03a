use Rattle.std.proofs.Common.{refl, ap, ◌∙◌, arith}
use Rattle.hash.specs.Blocks.{filled}
use Rattle.hash.proofs.Absorptions.{absorbed_blocks}
use Rattle.hash.proofs.Fillings.{put_is}
use Rattle.hash.proofs.Messages.{update_short, update_long}
use Rattle.hash.proofs.hashers.Hasher.update.Goals as goal

pub returns-then-input-used : goal.returns-then-input-used
returns-then-input-used c = λ m e.
    let p = put_is _ _ c.args.self.tail c.args.input.now _ c.copy_from_slice.ensures.after (omega arith) in
    update_short c.args.self m c.args.input.now _ _ e c.if-input-used.true p refl

pub returns : goal.returns
returns c = λ m e.
    let cut = c.split_at.ensures in
    let more = c.as_chunks.ensures in
    update_long c.args.self m c.args.input.now _ c.split_at.result.1.now _ c.compress-h.result _ _ _ e cut.by_index.0 cut.front_len
    (put_is _ _ c.args.self.tail c.split_at.result.0.now _ c.copy_from_slice-2.ensures.after (omega arith))
    c.compress-h.ensures (absorbed_blocks _ _ _ _ more.front c.absorb.ensures)
    (c.fill.ensures ∙ ap filled more.back) refl
