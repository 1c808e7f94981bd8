-- The places of a reserve: how many there are, and that of two stations.
use Rattle.std.specs.Prelude.{ℕ, Option}
use Rattle.plan_parts.specs.declared.reserve.Reserve.{Reserve}
use Rattle.plan_parts.specs.Layout.{places}
use Rattle.plan_parts.specs.ReserveView.{filled_in, order_in, size_in}
use Rattle.plan_parts.specs.Reserves.{place_of_stations}

abbrev pub places_in : Reserve → ℕ
places_in r = places (filled_in r) (size_in r)

abbrev pub place_in : Reserve → ℕ → ℕ → Option ℕ
place_in r a b = place_of_stations (filled_in r) (size_in r) (order_in r) a b
