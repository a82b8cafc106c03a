-- What a prepared key holds: the hash values after the block of the inner and of the outer pad.
use Rattle.std.specs.Prelude.{ℕ, List}
use Rattle.hash.specs.Hmac.{inner_pad, outer_pad}
use Rattle.hash.specs.Sha256.{compressed, initial}
use Rattle.hash.specs.declared.keys.Key.{Key}

unfoldable pub prepared : List ℕ → Key
prepared k = record { inner = compressed initial (inner_pad k); outer = compressed initial (outer_pad k) }
