use Rattle.std.proofs.Common.{◌∙◌, eqb, sym}
use Rattle.std.proofs.Math.Bool.{and_assoc}
use Rattle.device.specs.Rows.{same_row}
use Rattle.device.specs.Things.{same_data}
use Rattle.verifier.proofs.judges.Reply.signs.Goals as goal

pub returns : goal.returns
unfolding same_data
returns c = c.eq.ensures ∙ sym (and_assoc (eqb c.args.self.signature.chip c.args.self.chip) (same_data c.args.self.signature.«data» c.args.self.«data») (same_row c.args.self.signature.register c.args.row))
