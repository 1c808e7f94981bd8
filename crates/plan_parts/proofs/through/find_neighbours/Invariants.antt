use Rattle.elimination.specs.View.{graph, listed}
use Rattle.plan_parts.proofs.Marks.{Marked}
use Rattle.plan_parts.proofs.through.find_neighbours.Given as goal

abbrev pub invariant-loop-neighbour : goal.invariant-loop-neighbour
invariant-loop-neighbour l =
    (goal.iterator-loop-neighbour).can_next l.neighbour-iterator × (goal.iterator-loop-neighbour).is_finite l.neighbour-iterator
    × Marked (graph l.elimination.couplings) (listed l.elimination.order) l.position l.station l.initial.marks l.marks l.yielded
