use Rattle.std.proofs.Common.{refl, ◌∙◌, arith}
use Rattle.hash.proofs.Fillings.{put_is, put_last}
use Rattle.hash.proofs.buffers.with_length.Goals as goal

pub returns : goal.returns
returns c =
    put_is 56 8 c.args.block c.to_be_bytes.result _ c.copy_from_slice.ensures.after (omega arith)
    ∙ put_last c.args.block _ _ (omega arith) c.to_be_bytes.ensures refl
