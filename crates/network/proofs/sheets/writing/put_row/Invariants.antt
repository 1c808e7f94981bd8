use Rattle.network.specs.Sheets.{row_to}
use Rattle.network.specs.Writing.{Puts, pair_bits}
use Rattle.network.proofs.sheets.writing.put_row.Given as goal

abbrev pub invariant-loop-b : goal.invariant-loop-b
invariant-loop-b g l = Puts l.initial.writer l.writer (pair_bits l.counts.bits (row_to (g.N.Network.meaning l.network).coupled l.a l.b))
