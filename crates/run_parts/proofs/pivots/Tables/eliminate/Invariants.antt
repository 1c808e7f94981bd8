use Rattle.run_parts.proofs.Lending.{ColumnsDone}
use Rattle.run_parts.proofs.pivots.Tables.eliminate.Given as goal

abbrev pub invariant-loop-j : goal.invariant-loop-j
invariant-loop-j g l = ColumnsDone g.E.Entry.kind l.k l.initial.self l.self l.j-iterator
