-- What the parts of a writing do to a bit writer, for the contracts of its inner functions.
use Rattle.std.specs.Prelude.{◌≡◌, ℕ, ◌+◌, ◌*◌, ◌^◌, ◌<◌, ◌≤◌, Bool, false, List, ◌++◌, length, slice_index_or}
use Rattle.network.specs.declared.bit_fields.BitWriter.{BitWriter}
use Rattle.network.specs.Fields.{bit_of}
use Rattle.network.specs.Sheets.{bits_of, spread, flat}

-- cs is bs with the bits written from the place p on, and no other bit changed
pub record WrittenBits (bs cs : List ℕ) (p : ℕ) (bits : List Bool) : Type 0 where
  pub inside : (k : ℕ) → k < length bits → bit_of cs (p + k) ≡ slice_index_or bits k false
  pub before : (i : ℕ) → i < p → bit_of cs i ≡ bit_of bs i
  pub after : (i : ℕ) → p + length bits ≤ i → bit_of cs i ≡ bit_of bs i

-- the bits fit behind the writer's place
abbrev pub HasRoom : BitWriter → List Bool → Type 0
HasRoom writer bits = (writer.at + length bits ≤ 8 * length writer.bytes.now) × (length writer.bytes.now < 2 ^ 32)

-- the writer wrote the bits from its place on, into the bytes that it was lent, and stands behind them
pub record Puts (old new : BitWriter) (bits : List Bool) : Type 0 where
  pub lender : new.bytes.ghost_name ≡ old.bytes.ghost_name
  pub place : new.at ≡ old.at + length bits
  pub size : length new.bytes.now ≡ length old.bytes.now
  pub written : WrittenBits old.bytes.now new.bytes.now old.at bits

-- kind, size n, number m of couplings
unfoldable pub head_bits : ℕ → ℕ → List Bool
head_bits n m = bits_of 5 1 ++ (bits_of 10 n ++ bits_of 17 m)

-- couplings, each as two stations of w bits
unfoldable pub pair_bits : ℕ → List (ℕ × ℕ) → List Bool
pair_bits w pairs = spread w (flat pairs)
