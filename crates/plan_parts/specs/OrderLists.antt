-- What writing an order to the front of a list answers and leaves there.
use Rattle.std.specs.Prelude.{ℕ, cond, List, ◌++◌, length, drop, Ok, Err, Result, nat_lt}
use Rattle.network.specs.Refusals.{Fault, at}

-- done, or how many numbers the list must have
abbrev pub room_for : ℕ → List ℕ → Result (Unit {0}) Fault
room_for n out = cond (nat_lt (length out) n) (Err (at 16 n)) (Ok tt)

-- the list with an order of n stations at its front, or as it was if it is too short
abbrev pub order_written : ℕ → List ℕ → List ℕ → List ℕ
order_written n xs out = cond (nat_lt (length out) n) out (xs ++ drop n out)
