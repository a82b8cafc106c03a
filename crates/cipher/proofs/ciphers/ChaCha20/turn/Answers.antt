use Rattle.std.proofs.Common.{length, sym, refl, ◌∙◌, arith}
use Rattle.std.proofs.lemmas.List.{append-nil}
use Rattle.cipher.specs.Blocks.{block}
use Rattle.cipher.specs.Streams.{keystream}
use Rattle.cipher.proofs.Pieces.{going_more, going_all}
use Rattle.cipher.proofs.ciphers.ChaCha20.turn.Goals as goal

pub loop-bytes-preserved : goal.loop-bytes-preserved
loop-bytes-preserved c =
    going_more _ _ _ _ 4 c.loop-bytes.n _ c.loop-bytes.at c.min-end.result c.loop-bytes.bytes _ _ c.loop-bytes.invariant (omega arith) (omega arith)
    c.four_blocks.ensures c.xor.ensures

pub returns-then-at-bytes : goal.returns-then-at-bytes
unfolding keystream
returns-then-at-bytes c =
    going_all _ _ _ _ _ _ _
    (going_more _ _ _ _ 1 c.loop-bytes.n _ c.loop-bytes.at (length c.loop-bytes.bytes) c.loop-bytes.bytes _ _ c.loop-bytes.invariant refl (omega arith)
    (c.block.ensures ∙ sym (append-nil (block c.args.self.key c.loop-bytes.n c.args.self.nonce))) c.xor-then-at-bytes.ensures)
    (omega arith)

pub returns-else-at-bytes : goal.returns-else-at-bytes
returns-else-at-bytes c = going_all _ _ _ _ _ _ _ c.loop-bytes.invariant (omega arith)
