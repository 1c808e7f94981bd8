-- What a pivot does to the two tables that it was lent, for the contracts of its inner functions.
use Rattle.std.specs.Prelude.{◌≡◌, ℕ, Bool}
use Rattle.plan_parts.specs.ReserveView.{filled_in, size_in}
use Rattle.run_parts.specs.declared.pivots.Tables.{Tables}
use Rattle.run_parts.specs.Kinds.{Kind}
use Rattle.run_parts.specs.Square.{Square}
use Rattle.run_parts.specs.Tables.{square_of}
use Rattle.run_parts.specs.Parts.{Pivoted}

-- the square that lent tables hold
abbrev pub square_in : {E : Type 0} → Tables E → Square E
square_in t = square_of (filled_in t.reserve.now) (size_in t.reserve.now) t.entries.now t.marks.now

-- the same two tables were lent, for the same reserve
pub record SameLent {E : Type 0} (old new : Tables E) : Type 0 where
  pub reserve : new.reserve.now ≡ old.reserve.now
  pub entries : new.entries.ghost_name ≡ old.entries.ghost_name
  pub marks : new.marks.ghost_name ≡ old.marks.ghost_name

-- the tables became what pivot k at the places that D chooses makes of them
pub record Makes {E : Type 0} (K : Kind E) (k : ℕ) (D : ℕ → ℕ → Bool) (old new : Tables E) : Type 0 where
  pub lent : SameLent old new
  pub pivoted : Pivoted K (filled_in old.reserve.now) (size_in old.reserve.now) k D old.entries.now old.marks.now new.entries.now new.marks.now
