-- Kinds of entry: what a pivot needs of one, and the two kinds that are delivered.
use Rattle.std.specs.Prelude.{ℕ, ◌+◌, min, Bool, true, false, ◌&&◌, from_bits, Float}
use Rattle.std.specs.Float.{binary64, inf}
use Rattle.std.specs.Float.Ieee.{neg, sub, mul, div, lt}
use Rattle.run_parts.specs.declared.kinds.Level.{Level}
use Rattle.run_parts.specs.declared.kinds.Minutes.{Minutes}

-- whether an entry may be a pivot; what a place takes from left, pivot and right if it is empty; and what it takes
-- from old, left, pivot and right if it holds old
pub record Kind (E : Type 0) : Type 0 where
  pub usable : E → Bool
  pub first : E → E → E → E
  pub more : E → E → E → E → E

-- levels: above zero and below infinity; each operation rounds to 64 bits
abbrev pub level_usable : Float → Bool
level_usable pivot = lt (from_bits binary64 0) pivot && lt pivot (inf false)

abbrev pub level_product : Float → Float → Float → Float
level_product left pivot right = mul binary64 (div binary64 left pivot) right

abbrev pub level_first : Float → Float → Float → Float
level_first left pivot right = neg (level_product left pivot right)

abbrev pub level_more : Float → Float → Float → Float → Float
level_more old left pivot right = sub binary64 old (level_product left pivot right)

abbrev pub level_kind : Kind Level
level_kind = record {
  usable = λ pivot. level_usable pivot.0;
  first = λ left pivot right. record { 0 = level_first left.0 pivot.0 right.0 };
  more = λ old left pivot right. record { 0 = level_more old.0 left.0 pivot.0 right.0 };
}

-- minutes: each may be a pivot, a sum is held at the largest number, and the smaller of two ways counts
abbrev pub minutes_first : ℕ → ℕ → ℕ → ℕ
minutes_first left pivot right = min (left + right) 4294967295

abbrev pub minutes_more : ℕ → ℕ → ℕ → ℕ → ℕ
minutes_more old left pivot right = min old (minutes_first left pivot right)

abbrev pub minutes_kind : Kind Minutes
minutes_kind = record {
  usable = λ pivot. true;
  first = λ left pivot right. record { 0 = minutes_first left.0 pivot.0 right.0 };
  more = λ old left pivot right. record { 0 = minutes_more old.0 left.0 pivot.0 right.0 };
}
