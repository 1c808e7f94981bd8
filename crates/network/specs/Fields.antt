-- Fields of bits in a list of bytes, the most significant bit of each byte first.
use Rattle.std.specs.Prelude.{◌≡◌, ℕ, zero, suc, ◌+◌, ◌-◌, ◌*◌, ◌/◌, ◌%◌, ◌<◌, ◌≤◌, Bool, cond, List, length, Ok, Err, Result, nat_le, slice_index}
use Rattle.network.specs.Bits.{bit_at}
use Rattle.network.specs.Refusals.{Fault, at}

-- the bit at the place i
unfoldable pub bit_of : List ℕ → ℕ → Bool
bit_of bs i = bit_at (slice_index bs (i / 8)) (7 - i % 8)

-- the number in the w bits from the place p on
unfoldable pub field : List ℕ → ℕ → ℕ → ℕ
field bs p zero = 0
field bs p (suc w) = field bs p w * 2 + cond (bit_of bs (p + w)) 1 0

-- the field of w bits from p on ends within the bytes
abbrev pub is_in : List ℕ → ℕ → ℕ → Bool
is_in bs p w = nat_le (p + w) (8 * length bs)

-- the field, or the refusal of one that is not whole
abbrev pub field_in : List ℕ → ℕ → ℕ → Result ℕ Fault
field_in bs p w = cond (is_in bs p w) (Ok (field bs p w)) (Err (at 1 p))

-- the place after it is read: a field that is refused is not passed
abbrev pub place_after : List ℕ → ℕ → ℕ → ℕ
place_after bs p w = cond (is_in bs p w) (p + w) p

-- bs' is bs with the first n of the w bits of the number v written from the place p on, and no other bit changed
pub record Written (bs bs' : List ℕ) (p w v n : ℕ) : Type 0 where
  pub inside : (k : ℕ) → k < n → bit_of bs' (p + k) ≡ bit_at v (w - 1 - k)
  pub before : (i : ℕ) → i < p → bit_of bs' i ≡ bit_of bs i
  pub after : (i : ℕ) → p + n ≤ i → bit_of bs' i ≡ bit_of bs i
