-- The two tables of a run: entries, and a mark beside each. Mark 0 means empty, any other mark means held.
use Rattle.std.specs.Prelude.{ℕ, zero, suc, ◌<◌, ◌≤◌, cond, List, [], ◌∷◌, length, Some, None, Option, ◌==◌, slice_index, slice_set}
use Rattle.std.specs.List.{slice_get}
use Rattle.elimination.specs.Graphs.{Graph}
use Rattle.plan_parts.specs.Layout.{places, cell}
use Rattle.run_parts.specs.Square.{Square}

-- what the place p holds
abbrev pub held_entry : {E : Type 0} → List E → List ℕ → ℕ → Option E
held_entry es ms p = cond (slice_index ms p == 0) None (slice_get es p)

-- where there is no place, nothing is held
abbrev pub entry_of : {E : Type 0} → List E → List ℕ → Option ℕ → Option E
entry_of es ms None = None
entry_of es ms (Some p) = held_entry es ms p

-- a place lies within two tables of these lengths
abbrev pub Within : ℕ → ℕ → Option ℕ → Type 0
Within entries marks None = Unit {0}
Within entries marks (Some p) = (p < entries) × (p < marks)

-- the square that the tables hold, over the filled pairs F of n positions
unfoldable pub square_of : {E : Type 0} → Graph → ℕ → List E → List ℕ → Square E
square_of F n es ms i j = entry_of es ms (cell F n i j)

-- the tables have room for all places
abbrev pub Room : {E : Type 0} → Graph → ℕ → List E → List ℕ → Type 0
Room F n es ms = (places F n ≤ length es) × (places F n ≤ length ms)

-- the first marks set to 0
unfoldable pub zeroed : ℕ → List ℕ → List ℕ
zeroed zero ms = ms
zeroed (suc n) [] = []
zeroed (suc n) (m ∷ ms) = 0 ∷ zeroed n ms

-- an entry written at its place; its mark, 1 where it was 0 and else as it was
abbrev pub entry_over : {E : Type 0} → Option ℕ → Option E → List E → List E
entry_over None held es = es
entry_over (Some p) None es = es
entry_over (Some p) (Some e) es = slice_set es p e

abbrev pub mark_over : {E : Type 0} → Option ℕ → Option E → List ℕ → List ℕ
mark_over None held ms = ms
mark_over (Some p) None ms = ms
mark_over (Some p) (Some e) ms = slice_set ms p (cond (slice_index ms p == 0) 1 (slice_index ms p))

-- something done to a table at each row below i of column j, and at each row below n of the columns below j
unfoldable pub over_rows : {A : Type 0} → (ℕ → ℕ → A → A) → ℕ → ℕ → A → A
over_rows write j zero x = x
over_rows write j (suc i) x = write i j (over_rows write j i x)

unfoldable pub over_columns : {A : Type 0} → (ℕ → ℕ → A → A) → ℕ → ℕ → A → A
over_columns write n zero x = x
over_columns write n (suc j) x = over_rows write j n (over_columns write n j x)

-- the tables with all that a square holds written at its places
unfoldable pub entries_over : {E : Type 0} → Graph → ℕ → Square E → List E → List E
entries_over F n sq es = over_columns (λ i j. entry_over (cell F n i j) (sq i j)) n n es

unfoldable pub marks_over : {E : Type 0} → Graph → ℕ → Square E → List ℕ → List ℕ
marks_over F n sq ms = over_columns (λ i j. mark_over (cell F n i j) (sq i j)) n n ms
