use Rattle.std.proofs.Common.{refl}
use Rattle.cipher.specs.Rounds.{quarter_at_of, rounds}
use Rattle.cipher.specs.Blocks.{block}
use Rattle.cipher.specs.Streams.{keystream, chacha20}
use Rattle.cipher.proofs.laws.vectors_hold.Goals as goal

pub returns : goal.returns
unfolding quarter_at_of rounds block keystream chacha20
returns c =
    record {
      section_2_1_1 = refl;
      section_2_2_1 = refl;
      section_2_3_2 = refl;
      section_2_4_2 = refl;
      appendix_1_1 = refl;
      appendix_1_2 = refl;
      appendix_1_3 = refl;
      appendix_1_4 = refl;
      appendix_1_5 = refl;
      appendix_2_3 = refl;
    }
