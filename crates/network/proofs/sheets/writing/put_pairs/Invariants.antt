use Rattle.network.specs.Sheets.{pairs_to}
use Rattle.network.specs.Writing.{Puts, pair_bits}
use Rattle.network.proofs.sheets.writing.put_pairs.Given as goal

abbrev pub invariant-loop-a : goal.invariant-loop-a
invariant-loop-a g l = Puts l.initial.writer l.writer (pair_bits l.counts.bits (pairs_to (g.N.Network.meaning l.network).coupled l.a))
