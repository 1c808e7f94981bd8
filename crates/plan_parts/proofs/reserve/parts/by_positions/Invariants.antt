use Rattle.std.proofs.Common.{◌≡◌}
use Rattle.elimination.specs.View.{graph, listed}
use Rattle.plan_parts.specs.Reserves.{by_position}
use Rattle.plan_parts.proofs.Positions.{rows_to}
use Rattle.plan_parts.proofs.reserve.parts.by_positions.Given as goal

abbrev pub invariant-loop-i : goal.invariant-loop-i
invariant-loop-i l = graph l.placed ≡ rows_to (by_position (graph l.pairs) (listed l.order)) l.i
