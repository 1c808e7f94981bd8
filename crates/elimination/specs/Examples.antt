-- Small networks with an order each, and what is claimed of them: one table, and one test that computes.
use Rattle.std.specs.Prelude.{ℕ, ◌+◌, Bool, true, false, not, ◌&&◌, ◌||◌, List, [], ◌∷◌, is_some, Some, None, Option, ◌==◌, nat_lt}
use Rattle.std.specs.List.{list_all, list_any}
use Rattle.network.specs.Orders.{order_fault}
use Rattle.elimination.specs.AllOrders.{minimal, orders, within}
use Rattle.elimination.specs.Elimination.{count, fill, filled, pairs_below, parent}
use Rattle.elimination.specs.Graphs.{Graph}
use Rattle.elimination.specs.Orders.{last_of}

-- two stations, the smaller first
pub record Pair : Type 0 where
  pub low : ℕ
  pub high : ℕ

infix 70 ◌—◌
abbrev pub ◌—◌ : ℕ → ℕ → Pair
a — b = record { low = a; high = b }

-- the graph of some pairs
abbrev pub graph_of : List Pair → Graph
graph_of [] a b = false
graph_of (p ∷ ps) a b = ((a == p.low && b == p.high) || (a == p.high && b == p.low)) || graph_of ps a b

-- what is claimed of a network of n stations and an order of them
pub data Claim : Type 0 where
  -- exactly these pairs are fill
  fills : List Pair → Claim
  -- the stations and the filled pairs together are so many
  places : ℕ → Claim
  -- some order has no fill
  some_without_fill : Claim
  -- every order has fill
  none_without_fill : Claim
  -- exactly one order ends in a station and has no other fill
  seats : ℕ → List ℕ → Claim
  -- every minimal order whose fill lies within has exactly this fill
  tightens : List Pair → Claim
  -- the parent of a station
  parent_of : ℕ → Option ℕ → Claim
  -- the count of a station
  count_of : ℕ → ℕ → Claim

pub record Case : Type 0 where
  pub stations : ℕ
  pub couplings : List Pair
  pub order : List ℕ
  pub claims : List Claim

-- two graphs have the same pairs of stations below n
abbrev pub alike : ℕ → Graph → Graph → Bool
alike n F G = within n F G && within n G F

abbrev pub none : Graph
none a b = false

abbrev pub same_list : List ℕ → List ℕ → Bool
same_list [] [] = true
same_list [] (y ∷ ys) = false
same_list (x ∷ xs) [] = false
same_list (x ∷ xs) (y ∷ ys) = x == y && same_list xs ys

abbrev pub same_station : Option ℕ → Option ℕ → Bool
same_station None None = true
same_station None (Some b) = false
same_station (Some a) None = false
same_station (Some a) (Some b) = a == b

abbrev pub holds : ℕ → Graph → List ℕ → Claim → Bool
holds n C xs (fills ps) = alike n (fill C xs) (graph_of ps)
holds n C xs (places k) = n + pairs_below n (filled C xs) == k
holds n C xs some_without_fill = list_any (λ ys. within n (fill C ys) none) (orders n)
holds n C xs none_without_fill = not (list_any (λ ys. within n (fill C ys) none) (orders n))
holds n C xs (seats s zs) = list_all (λ ys. not (same_station (last_of ys) (Some s) && within n (fill C ys) (fill C xs)) || same_list ys zs) (orders n)
    && (same_station (last_of zs) (Some s) && within n (fill C zs) (fill C xs))
holds n C xs (tightens ps) = list_all (λ ys. not (within n (fill C ys) (fill C xs)) || (not (minimal n C ys) || alike n (fill C ys) (graph_of ps))) (orders n)
    && list_any (λ ys. within n (fill C ys) (fill C xs) && minimal n C ys) (orders n)
holds n C xs (parent_of s p) = same_station (parent C xs s) p
holds n C xs (count_of s k) = count C xs s == k

abbrev pub hold_all : ℕ → Graph → List ℕ → List Claim → Bool
hold_all n C xs [] = true
hold_all n C xs (claim ∷ rest) = holds n C xs claim && hold_all n C xs rest

-- the couplings are pairs of stations
abbrev pub proper : ℕ → List Pair → Bool
proper n [] = true
proper n (p ∷ ps) = (nat_lt p.low p.high && nat_lt p.high n) && proper n ps

-- the order is one, and every claim holds
abbrev pub stands : Case → Bool
stands c = proper c.stations c.couplings && (not (is_some (order_fault c.order c.stations)) && hold_all c.stations (graph_of c.couplings) c.order c.claims)

abbrev pub all_stand : List Case → Bool
all_stand [] = true
all_stand (c ∷ rest) = stands c && all_stand rest

abbrev pub star : Case
star = record {
  stations = 4;
  couplings = 0 — 1 ∷ 0 — 2 ∷ 0 — 3 ∷ [];
  order = 0 ∷ 1 ∷ 2 ∷ 3 ∷ [];
  claims = fills (1 — 2 ∷ 1 — 3 ∷ 2 — 3 ∷ []) ∷ places 10 ∷ some_without_fill ∷ [];
}

-- the path 0-1-2
abbrev pub chain : Case
chain = record {
  stations = 3;
  couplings = 0 — 1 ∷ 1 — 2 ∷ [];
  order = 0 ∷ 1 ∷ 2 ∷ [];
  claims = fills [] ∷ seats 0 (2 ∷ 1 ∷ 0 ∷ []) ∷ [];
}

abbrev pub ring : Case
ring = record {
  stations = 4;
  couplings = 0 — 1 ∷ 1 — 2 ∷ 2 — 3 ∷ 0 — 3 ∷ [];
  order = 0 ∷ 1 ∷ 2 ∷ 3 ∷ [];
  claims = fills (1 — 3 ∷ []) ∷ none_without_fill ∷ [];
}

-- that ring, with 4 coupled to 0
abbrev pub ring_with_pendant : Case
ring_with_pendant = record {
  stations = 5;
  couplings = 0 — 1 ∷ 1 — 2 ∷ 2 — 3 ∷ 0 — 3 ∷ 0 — 4 ∷ [];
  order = 0 ∷ 1 ∷ 2 ∷ 3 ∷ 4 ∷ [];
  claims = fills (1 — 3 ∷ 1 — 4 ∷ 3 — 4 ∷ 2 — 4 ∷ []) ∷ tightens (1 — 3 ∷ []) ∷ [];
}

abbrev pub one_station : Case
one_station = record {
  stations = 1;
  couplings = [];
  order = 0 ∷ [];
  claims = fills [] ∷ places 1 ∷ parent_of 0 None ∷ [];
}

abbrev pub two_uncoupled : Case
two_uncoupled = record {
  stations = 2;
  couplings = [];
  order = 0 ∷ 1 ∷ [];
  claims = parent_of 0 (Some 1) ∷ parent_of 1 None ∷ count_of 0 0 ∷ [];
}

abbrev pub table : List Case
table = star ∷ chain ∷ ring ∷ ring_with_pendant ∷ one_station ∷ two_uncoupled ∷ []
