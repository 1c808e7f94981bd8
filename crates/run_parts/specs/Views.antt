-- Outcomes and histories in the words of the contracts: over a reserve, and over what a call answered.
use Rattle.std.specs.Prelude.{ℕ, List, Ok, Err, Result}
use Rattle.network.specs.Refusals.{Fault, told}
use Rattle.network.specs.declared.refusal.Refusal.{Refusal}
use Rattle.elimination.specs.Graphs.{Graph}
use Rattle.plan_parts.specs.declared.reserve.Reserve.{Reserve}
use Rattle.plan_parts.specs.ReserveView.{filled_in, order_in, size_in}
use Rattle.run_parts.specs.declared.states.Loading.{Loading}
use Rattle.run_parts.specs.Kinds.{Kind}
use Rattle.run_parts.specs.Square.{Square}
use Rattle.run_parts.specs.Tables.{square_of}
use Rattle.run_parts.specs.Histories.{Stage, RunHistory, Agrees}

-- what a start answered: the reserve that the loading state reads, or what the refusal tells
abbrev pub loaded : {E : Type 0} → Result (Loading E) Refusal → Result Reserve Fault
loaded (Ok l) = Ok l.reserve.now
loaded (Err e) = Err (told e)

-- the square that the tables hold over a reserve, and that they hold what a square holds
abbrev pub table_square : {E : Type 0} → Reserve → List E → List ℕ → Square E
table_square r es ms = square_of (filled_in r) (size_in r) es ms

abbrev pub Hold : {E : Type 0} → Reserve → List E → List ℕ → Square E → Type 0
Hold r es ms sq = Agrees (filled_in r) (size_in r) es ms sq

-- the histories of a run on a reserve
abbrev pub History : {E : Type 0} → Kind E → Reserve → Stage → ℕ → Square E → Graph → Type 0
History K r stage k sq put = RunHistory K (filled_in r) (size_in r) (order_in r) stage k sq put

-- every history of the stage before goes on to one of the stage after
abbrev pub Turns : {E : Type 0} → Kind E → Reserve → Stage → ℕ → Stage → ℕ → Type 0
Turns {E} K r stage k stage' k' = (sq : Square E) (put : Graph) → History K r stage k sq put → History K r stage' k' sq put

-- every history of the state before, with tables that hold its square, goes on to one of the state after, with tables
-- that hold its square: f makes the square of the one before, h what was put
abbrev pub GoesOn : {E : Type 0} → Kind E → Reserve → Stage → ℕ → List E → List ℕ → ℕ → List E → List ℕ → (Square E → Square E) → (Graph → Graph) → Type 0
GoesOn {E} K r stage k es ms k' es' ms' f h = (sq : Square E) (put : Graph) → History K r stage k sq put → Hold r es ms sq
    → History K r stage k' (f sq) (h put) × Hold r es' ms' (f sq)
