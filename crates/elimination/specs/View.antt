-- A set of pairs as a graph, and an order as a list.
use Rattle.std.specs.Prelude.{ℕ, List, take, Ok, Err, Result}
use Rattle.network.specs.Refusals.{Fault, told}
use Rattle.network.specs.declared.refusal.Refusal.{Refusal}
use Rattle.elimination.specs.declared.order.EliminationOrder.{EliminationOrder}
use Rattle.elimination.specs.declared.pair_set.PairSet.{PairSet}
use Rattle.elimination.specs.declared.pair_set.members.RowMembers.{RowMembers}
use Rattle.elimination.specs.Graphs.{Graph}
use Rattle.elimination.specs.Words.{in_row, members_from, rows}

-- the pairs of a set
abbrev pub graph : PairSet → Graph
graph set = rows set.words

-- the members of a row that are still to come
abbrev pub coming : RowMembers → List ℕ
coming walk = members_from (in_row walk.row) walk.from

-- the stations of an order, as a list
abbrev pub listed : EliminationOrder → List ℕ
listed order = take order.size order.stations

-- what a call answered, an order by its list and a refusal by what it tells
abbrev pub listing : Result EliminationOrder Refusal → Result (List ℕ) Fault
listing (Ok order) = Ok (listed order)
listing (Err e) = Err (told e)
