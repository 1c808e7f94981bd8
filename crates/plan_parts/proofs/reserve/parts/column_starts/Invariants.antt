use Rattle.std.proofs.Common.{◌≡◌, length}
use Rattle.elimination.specs.View.{graph}
use Rattle.plan_parts.proofs.Columns.{BeginsTo}
use Rattle.plan_parts.proofs.reserve.parts.column_starts.Given as goal

abbrev pub invariant-loop-j : goal.invariant-loop-j
invariant-loop-j l = BeginsTo (graph l.pairs) l.n l.j l.starts × (length l.starts ≡ 513)
