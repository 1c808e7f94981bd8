-- Elimination: stations leave in an order, and pairs are filled as they do.
use Rattle.std.specs.Prelude.{◌≡◌, ℕ, zero, suc, ◌+◌, Bool, true, not, ◌&&◌, ◌||◌, List, [], ◌∷◌, Option, ◌==◌, count_by, find}
use Rattle.std.specs.Option.{option_or}
use Rattle.network.specs.Bits.{count_to}
use Rattle.elimination.specs.Graphs.{Graph, ProperPart}
use Rattle.elimination.specs.Orders.{In, Order, later, earlier, last_of}

-- v leaves: its pairs go, and every two of its neighbours become neighbours
abbrev pub after : Graph → ℕ → Graph
after G v a b = not (a == v) && (not (b == v) && (G a b || (G v a && (G v b && not (a == b)))))

-- a and b are neighbours at some moment, as the members of the list leave in turn
abbrev pub filled : Graph → List ℕ → Graph
filled G [] a b = G a b
filled G (v ∷ vs) a b = G a b || filled (after G v) vs a b

-- the pairs are the filled pairs of the order
abbrev pub FilledPairs : Graph → Graph → List ℕ → Type 0
FilledPairs pairs couplings order = (a b : ℕ) → pairs a b ≡ filled couplings order a b

-- the pairs of F that are not pairs of C
abbrev pub beyond : Graph → Graph → Graph
beyond F C a b = F a b && not (C a b)

-- the filled pairs that are no couplings
abbrev pub fill : Graph → List ℕ → Graph
fill C xs = beyond (filled C xs) C

-- the number of later stations that are neighbours of s in F
abbrev pub later_neighbour_count : Graph → List ℕ → ℕ → ℕ
later_neighbour_count F xs s = count_by (F s) (later xs s)

-- the earliest later station that is a neighbour of s in F; if there is none, the last station, and none for the last one
abbrev pub parent_among : Graph → List ℕ → ℕ → Option ℕ
parent_among F xs s = option_or (find (F s) (later xs s)) (last_of (later xs s))

-- the number of filled pairs that a station forms with later ones
abbrev pub count : Graph → List ℕ → ℕ → ℕ
count C xs s = later_neighbour_count (filled C xs) xs s

-- the earliest later station with which a station forms a filled pair; if there is none, the last station of the order;
-- the last station has no parent
abbrev pub parent : Graph → List ℕ → ℕ → Option ℕ
parent C xs s = parent_among (filled C xs) xs s

-- the number of pairs of stations below n
unfoldable pub pairs_below : ℕ → Graph → ℕ
pairs_below zero G = 0
pairs_below (suc n) G = pairs_below n G + count_to (G n) n

-- the number of fill pairs
abbrev pub total : ℕ → Graph → List ℕ → ℕ
total n C xs = pairs_below n (fill C xs)

-- from a over the members of the list in turn to b, each a neighbour of the next
abbrev pub path : Graph → ℕ → List ℕ → ℕ → Bool
path G a [] b = G a b
path G a (m ∷ ms) b = G a m && path G m ms b

-- a path joins a and b whose inner stations all come earlier than both
abbrev pub Joined : Graph → List ℕ → ℕ → ℕ → Type 0
Joined G xs a b = (ms : List ℕ) × (path G a ms b ≡ true) × ((m : ℕ) → In m ms → (earlier xs m a ≡ true) × (earlier xs m b ≡ true))

-- no order has a fill that is a proper part of the fill of xs
abbrev pub Minimal : ℕ → Graph → List ℕ → Type 0
Minimal n C xs = (ys : List ℕ) → Order n ys → ProperPart (fill C ys) (fill C xs) → ⊥
