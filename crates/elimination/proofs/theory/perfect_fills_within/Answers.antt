use Rattle.elimination.proofs.Statements.{perfect-fills-within}
use Rattle.elimination.proofs.theory.perfect_fills_within.Goals as goal

pub returns : goal.returns
returns c = perfect-fills-within
