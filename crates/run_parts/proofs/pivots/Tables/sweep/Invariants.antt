use Rattle.run_parts.proofs.Lending.{RowsDone}
use Rattle.run_parts.proofs.pivots.Tables.sweep.Given as goal

abbrev pub invariant-loop-i : goal.invariant-loop-i
invariant-loop-i g l = RowsDone g.E.Entry.kind l.k l.j l.initial.self l.self l.i-iterator
