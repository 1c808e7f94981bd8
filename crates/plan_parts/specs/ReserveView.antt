-- A reserve as its filled pairs by positions, its number of stations, and its order.
use Rattle.std.specs.Prelude.{ℕ, List}
use Rattle.elimination.specs.Graphs.{Graph}
use Rattle.elimination.specs.View.{graph, listed}
use Rattle.plan_parts.specs.declared.reserve.Reserve.{Reserve}

-- its filled pairs, by positions in its order
abbrev pub filled_in : Reserve → Graph
filled_in r = graph r.pairs

-- how many stations it has
abbrev pub size_in : Reserve → ℕ
size_in r = r.order.size

-- its order
abbrev pub order_in : Reserve → List ℕ
order_in r = listed r.order
