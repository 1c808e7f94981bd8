-- What is proved of every history of every run: statements that contracts cite, for one kind of entry.
use Rattle.std.specs.Prelude.{◌≡◌, ℕ, ◌<◌, true, List, length, is_some, Ok}
use Rattle.elimination.specs.Graphs.{Graph}
use Rattle.plan_parts.specs.Layout.{cell, places, Closed}
use Rattle.plan_parts.specs.Reserves.{known}
use Rattle.plan_parts.specs.ReserveLaws.{Grounded}
use Rattle.run_parts.specs.Kinds.{Kind}
use Rattle.run_parts.specs.Square.{Square}
use Rattle.run_parts.specs.Tables.{square_of}
use Rattle.run_parts.specs.Histories.{Stage, RunHistory, Agrees, row_of, column_of}
use Rattle.run_parts.specs.Outcomes.{entry_outcome, roomy, step_outcome}

-- every diagonal place and every coupling was put
pub record AllPut (n : ℕ) (C P : Graph) : Type 0 where
  pub diagonals : (i : ℕ) → i < n → P i i ≡ true
  pub couplings : (i j : ℕ) → i < n → j < i → C i j ≡ true → P i j ≡ true

-- after every history of a run on closed pairs, the square holds entries only where there are places; and once every
-- coupling and diagonal was put and every pivot made, each place holds one
abbrev pub RunsFillExactlyThePlaces : {E : Type 0} → Kind E → Type 0
RunsFillExactlyThePlaces {E} K = (F : Graph) (n : ℕ) (xs : List ℕ) (stage : Stage) (k : ℕ) (sq : Square E) (P : Graph) → Closed F n → RunHistory K F n xs stage k sq P
    → ((i j : ℕ) → is_some (sq i j) ≡ true → is_some (cell F n i j) ≡ true)
    × ((C : Graph) → Grounded F n C → AllPut n C P → k ≡ n → (i j : ℕ) → is_some (cell F n i j) ≡ true → is_some (sq i j) ≡ true)

-- over tables that hold the square of a history, entry answers what the square holds, and step decides by the square
abbrev pub AnswersAreThoseOfTheSquare : {E : Type 0} → Kind E → Type 0
AnswersAreThoseOfTheSquare {E} K = (F : Graph) (n : ℕ) (xs : List ℕ) (stage : Stage) (k : ℕ) (sq : Square E) (P : Graph) (es : List E) (ms : List ℕ)
    → Closed F n → RunHistory K F n xs stage k sq P → Agrees F n es ms sq
    → ((a b : ℕ) → entry_outcome F n xs es ms a b ≡ known n a (known n b (roomy (places F n) (length es) (length ms) (Ok (sq (row_of xs a b) (column_of xs a b))))))
    × ((made : ℕ) → step_outcome K (places F n) (length es) (length ms) n made (square_of F n es ms made made) ≡ step_outcome K (places F n) (length es) (length ms) n made (sq made made))
