-- What a reading of bytes as a sheet answers: the first fault in the order of the checks, or the sheet.
use Rattle.std.specs.Prelude.{◌≡◌, ℕ, ◌+◌, ◌-◌, ◌*◌, ◌/◌, Bool, true, false, cond, not, ◌&&◌, ◌||◌, List, ◌++◌, map, length, drop, Some, None, Ok, Err, Option, Result, ◌==◌, nat_le, nat_lt}
use Rattle.std.specs.List.{range_with_len}
use Rattle.network.specs.Fields.{field, is_in}
use Rattle.network.specs.Orders.{named_before}
use Rattle.network.specs.Refusals.{Fault, at, refuse, or_else, first_fault, unless}
use Rattle.network.specs.Sheets.{Sheet, width, before}

-- the first bit of the station i behind the header, in fields of w bits
unfoldable pub place_for : ℕ → ℕ → ℕ
place_for w i = 32 + w * i

-- the station i behind the header
unfoldable pub value_at : List ℕ → ℕ → ℕ → ℕ
value_at bs w i = field bs (place_for w i) w

-- four bytes: kind, size, number of couplings
unfoldable pub header_fault : List ℕ → Option Fault
header_fault bs =
    cond (nat_lt (length bs) 4) (refuse 1 0)
    (cond (field bs 0 5 == 1)
    (cond (nat_le 1 (field bs 5 10) && nat_le (field bs 5 10) 512)
    (cond (nat_le (field bs 15 17) (field bs 5 10 * (field bs 5 10 - 1) / 2)) None (refuse 4 15))
    (refuse 3 5))
    (refuse 2 0))

-- the coupling k: both fields whole, then a larger and a smaller station, then above the coupling before it
unfoldable pub pair_fault : List ℕ → ℕ → ℕ → ℕ → Option Fault
pair_fault bs n w k =
    cond (is_in bs (place_for w (2 * k)) w)
    (cond (is_in bs (place_for w (2 * k + 1)) w)
    (cond (nat_lt (value_at bs w (2 * k)) n && nat_lt (value_at bs w (2 * k + 1)) (value_at bs w (2 * k)))
    (cond (k == 0 || before (value_at bs w (2 * k - 2)) (value_at bs w (2 * k - 1)) (value_at bs w (2 * k)) (value_at bs w (2 * k + 1)))
    None
    (refuse 6 (place_for w (2 * k))))
    (refuse 5 (place_for w (2 * k))))
    (refuse 1 (place_for w (2 * k + 1))))
    (refuse 1 (place_for w (2 * k)))

-- the station k of the order, whose first is the field s: whole, then a station that was not named before
unfoldable pub placed_fault : List ℕ → ℕ → ℕ → ℕ → ℕ → Option Fault
placed_fault bs n w s k =
    cond (is_in bs (place_for w (s + k)) w)
    (cond (nat_lt (value_at bs w (s + k)) n && not (named_before (λ i. value_at bs w (s + i)) k (value_at bs w (s + k))))
    None
    (refuse 7 (place_for w (s + k))))
    (refuse 1 (place_for w (s + k)))

-- what follows the fields, which end at the bit t: zero bits to the end of their last byte, and nothing more
unfoldable pub end_fault : List ℕ → ℕ → Option Fault
end_fault bs t = cond (length bs == (t + 7) / 8 && field bs t (8 * ((t + 7) / 8) - t) == 0) None (refuse 8 t)

-- behind the header of n stations and m couplings
unfoldable pub body_fault : List ℕ → ℕ → ℕ → Option Fault
body_fault bs n m =
    or_else (first_fault (pair_fault bs n (width n)) m)
    (or_else (first_fault (placed_fault bs n (width n) (2 * m)) n)
    (end_fault bs (place_for (width n) (2 * m + n))))

unfoldable pub fault : List ℕ → Option Fault
fault bs = or_else (header_fault bs) (body_fault bs (field bs 5 10) (field bs 15 17))

-- the values at their places: the couplings, then the order
unfoldable pub couplings_of : List ℕ → ℕ → ℕ → List (ℕ × ℕ)
couplings_of bs n m = map (λ k. (value_at bs (width n) (2 * k), value_at bs (width n) (2 * k + 1))) (range_with_len 0 m)

unfoldable pub order_of : List ℕ → ℕ → ℕ → List ℕ
order_of bs n m = map (λ k. value_at bs (width n) (2 * m + k)) (range_with_len 0 n)

abbrev pub sheet_of : List ℕ → ℕ → ℕ → Sheet
sheet_of bs n m = record { size = n; couplings = couplings_of bs n m; order = order_of bs n m }

unfoldable pub decode : List ℕ → Result Sheet Fault
decode bs = unless (fault bs) (sheet_of bs (field bs 5 10) (field bs 15 17))

-- ---- what a reading leaves

-- a sheet whose order has to go into a list of the given length
abbrev pub fitting : Result Sheet Fault → ℕ → Result Sheet Fault
fitting (Err f) l = Err f
fitting (Ok s) l = cond (nat_lt l s.size) (Err (at 16 s.size)) (Ok s)

-- the outcome of a reading of bytes, with a list of the given length for the order
abbrev pub reading : List ℕ → ℕ → Result Sheet Fault
reading bs l = fitting (decode bs) l

-- the answer of a reading: nothing, or the refusal
abbrev pub done : Result Sheet Fault → Result (Unit {0}) Fault
done (Err f) = Err f
done (Ok s) = Ok tt

-- the list for the order after the reading
abbrev pub order_after : Result Sheet Fault → List ℕ → List ℕ
order_after (Err f) old = old
order_after (Ok s) old = s.order ++ drop s.size old

-- the sheet that the place holds after the reading
abbrev pub held_after : Result Sheet Fault → Sheet → Sheet
held_after (Err f) old = old
held_after (Ok s) old = s

-- the bytes are a sheet of n stations and m couplings
abbrev pub faultless : Option Fault → Bool
faultless (Some f) = false
faultless None = true

abbrev pub Stands : List ℕ → ℕ → ℕ → Type 0
Stands bs n m = (faultless (fault bs) ≡ true) × (field bs 5 10 ≡ n) × (field bs 15 17 ≡ m)
