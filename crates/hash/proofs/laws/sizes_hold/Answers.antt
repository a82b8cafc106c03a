use Rattle.hash.proofs.Sizes.{length_sha256, sha256_small, length_hmac, hmac_small}
use Rattle.hash.proofs.laws.sizes_hold.Goals as goal

pub returns : goal.returns
returns c = record { digest = length_sha256; digest_byte = sha256_small; code = length_hmac; code_byte = hmac_small }
