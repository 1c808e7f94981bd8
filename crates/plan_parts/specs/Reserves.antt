-- What every reserve keeps, over its filled pairs by positions and its number of stations.
use Rattle.std.specs.Prelude.{◌≡◌, ℕ, ◌-◌, ◌≤◌, Bool, cond, ◌&&◌, List, length, Err, Option, Result, nat_lt, slice_index}
use Rattle.network.specs.Net.{first_from}
use Rattle.network.specs.Refusals.{Fault, at}
use Rattle.elimination.specs.Graphs.{Graph}
pub use Rattle.elimination.specs.Graphs.{Symmetric, Irreflexive, Below}
use Rattle.elimination.specs.Orders.{position_of}
use Rattle.plan_parts.specs.Layout.{in_column, place_for, start}

-- each column begins where the columns before it end; the last number is where all of them end
abbrev pub Begins : Graph → ℕ → List ℕ → Type 0
Begins F n starts = (j : ℕ) → j ≤ n → slice_index starts j ≡ start F n j

-- the row i of the column j has a place
abbrev pub has_place : Graph → ℕ → ℕ → ℕ → Bool
has_place F n j i = nat_lt i n && in_column F j i

-- the first row not below `from` that has a place in the column j; no reserve has more than 512 rows
abbrev pub next_of_column : Graph → ℕ → ℕ → ℕ → Option ℕ
next_of_column F n j from = first_from (has_place F n j) from (512 - from)

-- a graph over stations, by their positions in the order xs
abbrev pub by_position : Graph → List ℕ → Graph
by_position G xs i j = nat_lt i (length xs) && (nat_lt j (length xs) && G (slice_index xs i) (slice_index xs j))

-- an answer, if the number is below n, else its refusal
abbrev pub known : {X : Type 0} → ℕ → ℕ → Result X Fault → Result X Fault
known n a answer = cond (nat_lt a n) answer (Err (at 15 a))

-- the place of two stations of the order xs, or none
abbrev pub place_of_stations : Graph → ℕ → List ℕ → ℕ → ℕ → Option ℕ
place_of_stations F n xs a b = place_for F n (position_of xs a) (position_of xs b)
