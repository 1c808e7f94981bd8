-- What the parts of a reading answer, for the contracts of its inner functions.
use Rattle.std.specs.Prelude.{ℕ, ◌+◌, ◌*◌, Bool, true, cond, ◌&&◌, List, Some, None, Ok, Err, Option, Result, nat_lt}
use Rattle.network.specs.Decode.{value_at}
use Rattle.network.specs.Fields.{field, is_in}
use Rattle.network.specs.Refusals.{Fault, at}
use Rattle.network.specs.Sheets.{before}

-- the coupling whose two fields of w bits stand from the bit p on: both whole, then a larger and a smaller station
unfoldable pub pair_in : List ℕ → ℕ → ℕ → ℕ → Result (ℕ × ℕ) Fault
pair_in bs n w p =
    cond (is_in bs p w)
    (cond (is_in bs (p + w) w)
    (cond (nat_lt (field bs p w) n && nat_lt (field bs (p + w) w) (field bs p w)) (Ok (field bs p w, field bs (p + w) w)) (Err (at 5 p)))
    (Err (at 1 (p + w))))
    (Err (at 1 p))

-- a coupling comes after the one before it, where there is one
abbrev pub has_risen : Option (ℕ × ℕ) → ℕ × ℕ → Bool
has_risen None pair = true
has_risen (Some last) pair = before last.0 last.1 pair.0 pair.1

-- the coupling k as one number, which rises with k
unfoldable pub pair_key : List ℕ → ℕ → ℕ → ℕ
pair_key bs w k = value_at bs w (2 * k) * 512 + value_at bs w (2 * k + 1)
