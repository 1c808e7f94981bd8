-- What is proved of elimination: statements that contracts cite, over every lawful network and every order of it.
use Rattle.std.specs.Prelude.{◌≡◌, ℕ, ◌<◌, ◌≤◌, Bool, true, false, List, Some, None, ◌≢◌}
use Rattle.network.specs.Net.{Net, Lawful}
use Rattle.network.specs.Orders.{order_fault}
use Rattle.elimination.specs.AllOrders.{Listed, minimal, orders}
use Rattle.elimination.specs.Graphs.{Graph, Simple, Sub, ProperPart, complete, simplicial, closed, spare, without}
use Rattle.elimination.specs.Orders.{Order, up_to, last_of}
use Rattle.elimination.specs.Elimination.{filled, fill, Joined, Minimal}

-- a list names each of at most 512 stations once exactly if the check of orders tells no fault
abbrev pub OrdersHaveNoFault : Type 0
OrdersHaveNoFault = (n : ℕ) (xs : List ℕ) → n ≤ 512 → (Order n xs → order_fault xs n ≡ None) × (order_fault xs n ≡ None → Order n xs)

-- the list of all orders has exactly the orders
abbrev pub OrdersAreListed : Type 0
OrdersAreListed = (n : ℕ) (xs : List ℕ) → (Order n xs → Listed xs (orders n)) × (Listed xs (orders n) → Order n xs)

-- the test over all orders finds exactly the minimal ones
abbrev pub MinimalByTest : Type 0
MinimalByTest = (n : ℕ) (C : Graph) (xs : List ℕ) → Simple n C → Order n xs
    → (minimal n C xs ≡ true → Minimal n C xs) × (Minimal n C xs → minimal n C xs ≡ true)

-- every lawful network and every order of its stations
abbrev pub ForEveryOrder : (Net → List ℕ → Type 0) → Type 0
ForEveryOrder P = (net : Net) (xs : List ℕ) → Lawful net → Order net.size xs → P net xs

-- the filled pairs are pairs of stations, contain the couplings, are closed under the order, and are the least such
abbrev pub FilledIsTheLeastClosed : Type 0
FilledIsTheLeastClosed = ForEveryOrder (λ net xs.
    Simple net.size (filled net.coupled xs)
    × Sub net.coupled (filled net.coupled xs)
    × (closed (filled net.coupled xs) xs ≡ true)
    × ((H : Graph) → Sub net.coupled H → closed H xs ≡ true → Sub (filled net.coupled xs) H))

-- two stations form a filled pair exactly if a path of couplings through stations earlier than both joins them
abbrev pub FilledByPaths : Type 0
FilledByPaths = ForEveryOrder (λ net xs. (a b : ℕ) → (a ≢ b)
    → (filled net.coupled xs a b ≡ true → Joined net.coupled xs a b)
    × (Joined net.coupled xs a b → filled net.coupled xs a b ≡ true))

-- a graph that an order closes has, outside any clique that leaves a station out, a station whose neighbours are pairwise neighbours
abbrev pub EndVertexLaw : Type 0
EndVertexLaw = (n : ℕ) (H : Graph) (xs : List ℕ) (clique : ℕ → Bool) → Simple n H → Order n xs → closed H xs ≡ true
    → complete H clique (up_to n) ≡ true → ((a : ℕ) × (a < n) × (clique a ≡ false))
    → (a : ℕ) × (a < n) × (clique a ≡ false) × (simplicial H a (up_to n) ≡ true)

-- if no fill pair of an order is spare among its filled pairs, the order is minimal
abbrev pub WithoutSpareFillMinimal : Type 0
WithoutSpareFillMinimal = ForEveryOrder (λ net xs.
    ((u v : ℕ) → fill net.coupled xs u v ≡ true → spare net.size (filled net.coupled xs) u v ≢ true)
    → Minimal net.size net.coupled xs)

-- if some order has a fill that is a proper part of another's, a fill pair of that other which the first lacks is spare
abbrev pub LessFillLeavesASparePair : Type 0
LessFillLeavesASparePair = ForEveryOrder (λ net xs. (ys : List ℕ) → Order net.size ys
    → ProperPart (fill net.coupled ys) (fill net.coupled xs)
    → (u v : ℕ) × (fill net.coupled xs u v ≡ true) × (fill net.coupled ys u v ≡ false) × (spare net.size (filled net.coupled xs) u v ≡ true))

-- some order closes the graph
abbrev pub Perfect : ℕ → Graph → Type 0
Perfect n H = (xs : List ℕ) × Order n xs × (closed H xs ≡ true)

-- without a spare pair, a graph that some order closes is still closed by some order
abbrev pub SparePairsCanGo : Type 0
SparePairsCanGo = (n : ℕ) (H : Graph) → Simple n H → Perfect n H → (u v : ℕ) → H u v ≡ true → spare n H u v ≡ true → Perfect n (without H u v)

-- an order under which a graph that contains the couplings is closed fills nothing outside it
abbrev pub PerfectFillsWithin : Type 0
PerfectFillsWithin = ForEveryOrder (λ net xs. (H : Graph) → Sub net.coupled H → closed H xs ≡ true → Sub (filled net.coupled xs) H)

-- if some order closes a graph, so does one that ends in any given station
abbrev pub AnyStationLast : Type 0
AnyStationLast = (n : ℕ) (H : Graph) → Simple n H → Perfect n H → (s : ℕ) → s < n
    → (ys : List ℕ) × Order n ys × (closed H ys ≡ true) × (last_of ys ≡ Some s)

-- any station can be last in an order with no new fill
abbrev pub SeatsWithoutNewFill : Type 0
SeatsWithoutNewFill = ForEveryOrder (λ net xs. (s : ℕ) → s < net.size
    → (ys : List ℕ) × Order net.size ys × (last_of ys ≡ Some s) × Sub (fill net.coupled ys) (fill net.coupled xs))
