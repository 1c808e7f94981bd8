-- Neighbour lists: which names a station has, what is wrong with two lists, and the network that they give.
-- Station s has the names from starts s up to, without, starts s + 1.
use Rattle.std.specs.Prelude.{ℕ, zero, suc, ◌+◌, ◌-◌, ◌<◌, ◌≤◌, Bool, false, cond, not, ◌&&◌, ◌||◌, List, length, None, Option, ◌==◌, nat_le, nat_lt, slice_index}
use Rattle.network.specs.Net.{Net}
use Rattle.network.specs.Refusals.{Fault, refuse, or_else, first_fault}

-- there is one station fewer than there are starts
abbrev pub list_size : List ℕ → ℕ
list_size starts = length starts - 1

-- the name at k stands in the list of station s
abbrev pub InList : List ℕ → ℕ → ℕ → Type 0
InList starts s k = (s < list_size starts) × (slice_index starts s ≤ k) × (k < slice_index starts (s + 1))

-- b is one of the k names from low on
unfoldable pub among_names : List ℕ → ℕ → ℕ → ℕ → Bool
among_names names low zero b = false
among_names names low (suc k) b = among_names names low k b || slice_index names (low + k) == b

-- the list of a names b
unfoldable pub named_in : List ℕ → List ℕ → ℕ → ℕ → Bool
named_in starts names a b = among_names names (slice_index starts a) (slice_index starts (a + 1) - slice_index starts a) b

-- two stations are coupled where the list of the one names the other
abbrev pub list_net : List ℕ → List ℕ → Net
list_net starts names = record {
  size = list_size starts;
  coupled = λ a b. (nat_lt a (list_size starts) && nat_lt b (list_size starts)) && named_in starts names a b;
}

-- there are starts for 1 to 512 stations
abbrev pub starts_length_fault : List ℕ → Option Fault
starts_length_fault starts = cond (nat_le 2 (length starts) && nat_le (length starts) 513) None (refuse 9 (length starts))

-- the first start is 0, a later one is not below the one before it, and the last is the number of the names
abbrev pub is_fitting_start : List ℕ → ℕ → ℕ → Bool
is_fitting_start starts count i =
    cond (i == 0) (slice_index starts i == 0) (nat_le (slice_index starts (i - 1)) (slice_index starts i))
    && (nat_lt (i + 1) (length starts) || slice_index starts i == count)

abbrev pub start_fault : List ℕ → ℕ → ℕ → Option Fault
start_fault starts count i = cond (is_fitting_start starts count i) None (refuse 10 i)

-- the first fault of the starts, whose names are so many: how many starts, then each of them
abbrev pub starts_fault : List ℕ → ℕ → Option Fault
starts_fault starts count = or_else (starts_length_fault starts) (first_fault (start_fault starts count) (length starts))

-- in the list of station s, which begins at low, the name at k is another of the n stations, above the name before it
abbrev pub is_fitting_name : List ℕ → ℕ → ℕ → ℕ → ℕ → Bool
is_fitting_name names n low s k =
    (nat_lt (slice_index names k) n && not (slice_index names k == s)) && (k == low || nat_lt (slice_index names (k - 1)) (slice_index names k))

abbrev pub name_fault : List ℕ → List ℕ → ℕ → ℕ → Option Fault
name_fault starts names s k = cond (is_fitting_name names (list_size starts) (slice_index starts s) s k) None (refuse 11 k)

-- the station that the list of s names at k has s in its own list
abbrev pub one_sided_fault : List ℕ → List ℕ → ℕ → ℕ → Option Fault
one_sided_fault starts names s k = cond (named_in starts names (slice_index names k) s) None (refuse 12 k)

-- the first fault in the list of station s, by what is found at each of its names
unfoldable pub row_fault : List ℕ → (ℕ → ℕ → Option Fault) → ℕ → Option Fault
row_fault starts found s = first_fault (λ j. found s (slice_index starts s + j)) (slice_index starts (s + 1) - slice_index starts s)

-- the first fault in the lists of all stations, in their order, so that the names are walked by rising index
abbrev pub rows_fault : List ℕ → (ℕ → ℕ → Option Fault) → Option Fault
rows_fault starts found = first_fault (row_fault starts found) (list_size starts)

-- the first fault of two lists, in the order of the checks
unfoldable pub lists_fault : List ℕ → List ℕ → Option Fault
lists_fault starts names =
    or_else (starts_length_fault starts)
    (or_else (first_fault (start_fault starts (length names)) (length starts))
    (or_else (rows_fault starts (name_fault starts names)) (rows_fault starts (one_sided_fault starts names))))
