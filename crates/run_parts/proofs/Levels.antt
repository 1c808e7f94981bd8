-- The largest level is written by its bits.
use Rattle.std.proofs.Common.{◌≡◌, false, from_bits, refl}
use Rattle.std.specs.Float.{binary64, inf}
use lib.Ieee.{of_bits, of_fields}

pub infinity_is : from_bits binary64 0x7FF0_0000_0000_0000 ≡ inf false
unfolding of_bits of_fields
infinity_is = refl
