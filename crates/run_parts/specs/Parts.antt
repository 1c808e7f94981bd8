-- Parts of a pivot in the tables: what the steps inside a step leave.
use Rattle.std.specs.Prelude.{◌≡◌, ℕ, ◌≤◌, Bool, not, ◌&&◌, List, length, ◌==◌, ◌≢◌, nat_lt, slice_index}
use Rattle.std.specs.List.{slice_get}
use Rattle.elimination.specs.Graphs.{Graph}
use Rattle.plan_parts.specs.Layout.{places}
use Rattle.run_parts.specs.Kinds.{Kind}
use Rattle.run_parts.specs.Square.{part}
use Rattle.run_parts.specs.Tables.{square_of}

-- the places of the column j, up to the row i; those of the columns between k and j
abbrev pub in_one : ℕ → ℕ → ℕ → ℕ → Bool
in_one j i a b = b == j && (not (nat_lt a b) && nat_lt a i)

abbrev pub in_up_to : ℕ → ℕ → ℕ → ℕ → ℕ → Bool
in_up_to k n j a b = nat_lt k b && (not (nat_lt a b) && (nat_lt a n && nat_lt b j))

-- what stays beside the square: a mark that is not 0, an entry that is not held, and all beyond the places;
-- and a mark that was 0 is 0 or 1
pub record Kept {E : Type 0} (len : ℕ) (es : List E) (ms : List ℕ) (es' : List E) (ms' : List ℕ) : Type 0 where
  pub entries : length es' ≡ length es
  pub table : length ms' ≡ length ms
  pub marks : (p : ℕ) → (slice_index ms p ≢ 0) → slice_index ms' p ≡ slice_index ms p
  pub ones : (p : ℕ) → slice_index ms p ≡ 0 → slice_index ms' p ≤ 1
  pub empties : (p : ℕ) → slice_index ms' p ≡ 0 → slice_get es' p ≡ slice_get es p
  pub tails : (p : ℕ) → len ≤ p → (slice_index ms' p ≡ slice_index ms p) × (slice_get es' p ≡ slice_get es p)

-- the tables became what pivot k at the places that D chooses makes of them
pub record Pivoted {E : Type 0} (K : Kind E) (F : Graph) (n k : ℕ) (D : ℕ → ℕ → Bool) (es : List E) (ms : List ℕ) (es' : List E) (ms' : List ℕ) : Type 0 where
  pub square : (i j : ℕ) → square_of F n es' ms' i j ≡ part K k D (square_of F n es ms) i j
  pub kept : Kept (places F n) es ms es' ms'
