use Rattle.std.proofs.Common.{◌≡◌}
use Rattle.elimination.specs.View.{graph, listed}
use Rattle.plan_parts.specs.Reserves.{by_position}
use Rattle.plan_parts.proofs.Positions.{reached, row_to}
use Rattle.plan_parts.proofs.reserve.parts.place_pairs.Given as goal

abbrev pub invariant-loop-b : goal.invariant-loop-b
invariant-loop-b l =
    (goal.iterator-loop-b).can_next l.b-iterator × (goal.iterator-loop-b).is_finite l.b-iterator
    × (graph l.placed ≡ row_to (graph l.initial.placed) l.i (reached (by_position (graph l.pairs) (listed l.order)) (listed l.order) l.i l.yielded))
