use Rattle.std.proofs.Common.{◌*◌}
use Rattle.elimination.proofs.RowTests.{Taken}
use Rattle.elimination.proofs.words.take_row.Given as goal

-- the first k words have taken those of the row v
abbrev pub invariant-loop-k : goal.invariant-loop-k
invariant-loop-k l = Taken l.part l.fn.words l.row (l.a * 8) l.k
