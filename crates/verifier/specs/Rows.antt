-- Rows of the office's digests, and which of a row's digests are good.
use Rattle.std.specs.Prelude.{◌-◌, false, List, [], ◌∷◌, ◌++◌, map, replicate, Some, None, Option}
use Rattle.device.specs.declared.digests.Digest.{Digest}
use Rattle.device.specs.declared.registers.Register.{Register}
use Rattle.device.specs.Rows.{row, empty_register, pushed}
use Rattle.verifier.specs.declared.judges.Flags.{Flags}
use Rattle.verifier.specs.Searches.{some, is_digest}

-- the register with all of these digests more, unless it is full before the last
unfoldable pub filled : Option Register → List Digest → Option Register
filled None ds = None
filled (Some r) [] = Some r
filled (Some r) (d ∷ ds) = filled (pushed r d) ds

abbrev pub gathered : List Digest → Option Register
gathered ds = filled (Some empty_register) ds

-- of each digest of the row, the oldest first, whether it is among the good ones; false past the row's end
abbrev pub flags : List Digest → Register → Flags
flags good r = record { known = map (λ d. some (is_digest d) good) (row r) ++ replicate (16 - r.len) false; len = r.len }
