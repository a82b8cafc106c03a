use Rattle.cipher.proofs.Lanewise.{lane_rotl}
use Rattle.cipher.proofs.words.U32x4Word.rotl.Goals as goal

pub returns : goal.returns
returns c k = lane_rotl c.args.n c.args.self k c.fits-self.0
