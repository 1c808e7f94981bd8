-- A list of numbers as an order of n stations: each of them named once.
use Rattle.std.specs.Prelude.{ℕ, zero, suc, Bool, false, cond, not, ◌&&◌, ◌||◌, List, length, None, Option, ◌==◌, nat_le, nat_lt, slice_index}
use Rattle.network.specs.Refusals.{Fault, refuse, first_fault}

-- v is one of the first k values
unfoldable pub named_before : (ℕ → ℕ) → ℕ → ℕ → Bool
named_before value zero v = false
named_before value (suc k) v = named_before value k v || value k == v

-- v is among the first k numbers of the list
abbrev pub among : List ℕ → ℕ → ℕ → Bool
among xs = named_before (λ k. slice_index xs k)

-- the number at k is no station, or was named before
unfoldable pub station_fault : List ℕ → ℕ → ℕ → Option Fault
station_fault xs n k = cond (nat_lt (slice_index xs k) n && not (among xs k (slice_index xs k))) None (refuse 14 k)

-- first the length, then the stations; no network has more than 512 stations, so no list is an order of one
abbrev pub order_fault : List ℕ → ℕ → Option Fault
order_fault xs n = cond (length xs == n && nat_le n 512) (first_fault (station_fault xs n) n) (refuse 13 (length xs))
