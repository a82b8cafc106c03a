-- When targets, contents and seals are the same.
use Rattle.std.specs.Prelude.{ℕ, Bool, true, false, ◌&&◌, ◌==◌}
use Rattle.std.specs.Str.{bytes_eq}
use Rattle.device.specs.declared.chips.Target.{Target}
use Rattle.device.specs.declared.chips.Target.TheVariants.{Row, Nowhere}
use Rattle.device.specs.declared.chips.Content.{Content}
use Rattle.device.specs.declared.chips.Thing.{Thing}
use Rattle.device.specs.declared.digests.Data.{Data}
use Rattle.device.specs.declared.registers.Register.{Register}
use Rattle.device.specs.Rows.{same_row}

abbrev pub is_row : Target → Register → Bool
is_row (Row r) row = same_row row r
is_row Nowhere row = false

abbrev pub same_target : Target → Target → Bool
same_target (Row r) t = is_row t r
same_target Nowhere (Row s) = false
same_target Nowhere Nowhere = true

unfoldable pub same_data : Data → Data → Bool
same_data d e = bytes_eq d.bytes e.bytes

abbrev pub same_content : Content → Content → Bool
same_content x y = x.number == y.number && x.counter == y.counter && same_target x.target y.target && same_data x.data y.data

-- the seal is chip a's, over just this content
abbrev pub sealed_by_of : ℕ → Thing → Bool
sealed_by_of a x = x.seal.chip == a && same_content x.seal.content x.content
