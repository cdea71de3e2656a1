-- The number by which a caller knows the library: version 3 from bit 32 on, and 392 bytes to a record.
use Rattle.std.specs.Prelude.{◌≡◌, refl}
use Rattle.tuilarder.specs.Layout.{layout}

pub layout_by_hand : layout ≡ 0x300000188
layout_by_hand = refl
