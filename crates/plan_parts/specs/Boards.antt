-- A board of mark bytes, one for each station, in the search for a path:
-- 0 for a station that was not seen, 1 for one that was found, and 2 for one whose neighbours were looked at as well.
use Rattle.std.specs.Prelude.{ℕ, Bool, cond, ◌&&◌, List, ◌++◌, drop, replicate, Some, None, Option, ◌==◌, nat_lt, slice_index, slice_set}
use Rattle.elimination.specs.Graphs.{Graph}
use Rattle.elimination.specs.Orders.{position_of}

-- the board with its first n bytes zero
abbrev pub cleared : ℕ → List ℕ → List ℕ
cleared n board = replicate n 0 ++ drop n board

-- the station k was found, and its neighbours were not looked at
abbrev pub found : List ℕ → ℕ → Bool
found board k = slice_index board k == 1

-- the board after a station, if there is one, was taken to look at its neighbours
abbrev pub taken : Option ℕ → List ℕ → List ℕ
taken None board = board
taken (Some k) board = slice_set board k 2

-- the neighbours of s that come before a position, and were not seen, are to be found
abbrev pub unseen : Graph → List ℕ → ℕ → ℕ → List ℕ → ℕ → Bool
unseen G xs position s board k = G s k && (nat_lt (position_of xs k) position && slice_index board k == 0)

-- the mark of k once they are
abbrev pub mark_after : Graph → List ℕ → ℕ → ℕ → List ℕ → ℕ → ℕ
mark_after G xs position s board k = cond (unseen G xs position s board k) 1 (slice_index board k)
