-- The five bytes compute: they are a sheet of one station.
use Rattle.std.proofs.Common.{sym, refl}
use Rattle.network.specs.Bits.{bit_at}
use Rattle.network.specs.Fields.{field, bit_of}
use Rattle.network.specs.Orders.{named_before}
use Rattle.network.specs.Refusals.{first_fault}
use Rattle.network.specs.Sheets.{width, width_to}
use Rattle.network.specs.Decode.{fault, header_fault, body_fault, pair_fault, placed_fault, end_fault, couplings_of, order_of, place_for, value_at}
use Rattle.network.proofs.sheets.SheetNetwork.lone.Goals as goal

pub invariant_of-result : goal.invariant_of-result
unfolding fault header_fault body_fault first_fault pair_fault placed_fault end_fault named_before place_for value_at width width_to field bit_of bit_at
invariant_of-result c = record { stands = (refl, sym c.new.ensures.stations, sym c.new.ensures.couplings) }

pub returns : goal.returns
unfolding couplings_of order_of place_for value_at width width_to field bit_of bit_at
returns c = record { bytes = refl; sheet = rw (c.new.ensures.stations, c.new.ensures.couplings) refl }
