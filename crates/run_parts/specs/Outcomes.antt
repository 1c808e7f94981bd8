-- What each call of a run answers, and what it leaves in the square and in the tables.
use Rattle.std.specs.Prelude.{ℕ, max, Bool, true, false, cond, ◌||◌, List, length, Some, None, Ok, Err, Option, Result, ◌==◌, nat_lt, slice_set}
use Rattle.network.specs.Refusals.{Fault, at}
use Rattle.elimination.specs.Graphs.{Graph}
use Rattle.plan_parts.specs.Layout.{places}
use Rattle.plan_parts.specs.Reserves.{known, place_of_stations}
use Rattle.run_parts.specs.declared.states.Step.{Step}
use Rattle.run_parts.specs.declared.states.Step.TheVariants.{Made, Finished}
use Rattle.run_parts.specs.Kinds.{Kind}
use Rattle.run_parts.specs.Square.{Square, pivot, pivotal, single, with_entry}
use Rattle.run_parts.specs.Tables.{square_of, entry_of, zeroed, entries_over, marks_over}
use Rattle.run_parts.specs.Histories.{row_of, column_of}

-- an answer, if both tables are as long as the reserve, else the refusal 17
abbrev pub roomy : {X : Type 0} → ℕ → ℕ → ℕ → Result X Fault → Result X Fault
roomy need entries marks answer = cond (nat_lt entries need || nat_lt marks need) (Err (at 17 need)) answer

-- the marks after a start: zeroed over the reserve's places unless it was refused
abbrev pub cleared : {X : Type 0} → Result X Fault → ℕ → List ℕ → List ℕ
cleared (Ok x) need ms = zeroed need ms
cleared (Err f) need ms = ms

-- two stations without a place are refused by 18
abbrev pub placed : ℕ → ℕ → Option ℕ → Result (Unit {0}) Fault
placed a b None = Err (at 18 (max a b))
placed a b (Some p) = Ok tt

-- the place of two stations, if they have one: first the stations, then the lengths of the tables
abbrev pub checked_place_of : Graph → ℕ → List ℕ → ℕ → ℕ → ℕ → ℕ → Result (Option ℕ) Fault
checked_place_of F n xs entries marks a b = known n a (known n b (roomy (places F n) entries marks (Ok (place_of_stations F n xs a b))))

-- a put, by the lengths of the tables and the two stations
abbrev pub put_outcome : Graph → ℕ → List ℕ → ℕ → ℕ → ℕ → ℕ → Result (Unit {0}) Fault
put_outcome F n xs entries marks a b = known n a (known n b (roomy (places F n) entries marks (placed a b (place_of_stations F n xs a b))))

-- the entry of two stations; without a place it is empty
abbrev pub entry_outcome : {E : Type 0} → Graph → ℕ → List ℕ → List E → List ℕ → ℕ → ℕ → Result (Option E) Fault
entry_outcome F n xs es ms a b = known n a (known n b (roomy (places F n) (length es) (length ms) (Ok (entry_of es ms (place_of_stations F n xs a b)))))

-- a table in which a put that was not refused wrote v at its place
abbrev pub stored : {A X : Type 0} → Result X Fault → Option ℕ → A → List A → List A
stored (Err f) place v xs = xs
stored (Ok x) None v xs = xs
stored (Ok x) (Some p) v xs = slice_set xs p v

-- what a put makes of the square, and of what was put
abbrev pub put_square : {E X : Type 0} → List ℕ → ℕ → ℕ → E → Result X Fault → Square E → Square E
put_square xs a b e (Ok x) sq = with_entry sq (row_of xs a b) (column_of xs a b) e
put_square xs a b e (Err f) sq = sq

abbrev pub put_places : {X : Type 0} → List ℕ → ℕ → ℕ → Result X Fault → Graph → Graph
put_places xs a b (Ok x) P = λ i j. P i j || single (row_of xs a b) (column_of xs a b) i j
put_places xs a b (Err f) P = P

-- a pivot, by what the diagonal place holds: made, or refused by 19 at its position
abbrev pub pivot_outcome : {E : Type 0} → Kind E → ℕ → Option E → Result (Unit {0}) Fault
pivot_outcome K k held = cond (pivotal K held) (Ok tt) (Err (at 19 k))

-- a step, by the length needed, the lengths of the tables, n, the pivots made, and what the next diagonal place holds:
-- 17, else finished exactly if n pivots are made, else the pivot is made or refused by 19
abbrev pub step_outcome : {E : Type 0} → Kind E → ℕ → ℕ → ℕ → ℕ → ℕ → Option E → Result Step Fault
step_outcome K need entries marks n made held =
    roomy need entries marks (cond (made == n) (Ok Finished) (cond (pivotal K held) (Ok Made) (Err (at 19 made))))

-- whether a pivot was made
abbrev pub is_made : Result Step Fault → Bool
is_made (Ok Made) = true
is_made (Ok Finished) = false
is_made (Err f) = false

-- what a step makes of the square, and of the tables
abbrev pub step_square : {E : Type 0} → Kind E → ℕ → Result Step Fault → Square E → Square E
step_square K made (Ok Made) sq = pivot K made sq
step_square K made (Ok Finished) sq = sq
step_square K made (Err f) sq = sq

abbrev pub step_entries : {E : Type 0} → Kind E → Graph → ℕ → ℕ → Result Step Fault → List E → List ℕ → List E
step_entries K F n made r es ms = cond (is_made r) (entries_over F n (pivot K made (square_of F n es ms)) es) es

abbrev pub step_marks : {E : Type 0} → Kind E → Graph → ℕ → ℕ → Result Step Fault → List E → List ℕ → List ℕ
step_marks K F n made r es ms = cond (is_made r) (marks_over F n (pivot K made (square_of F n es ms)) ms) ms
