use Rattle.std.proofs.Common.{◌≡◌}
use Rattle.elimination.specs.View.{graph}
use Rattle.elimination.proofs.Walks.{keeping}
use Rattle.elimination.proofs.filling.keep_pairs.Given as goal

abbrev pub invariant-loop-a : goal.invariant-loop-a
invariant-loop-a l =
    (goal.iterator-loop-a).can_next l.a-iterator × (goal.iterator-loop-a).is_finite l.a-iterator
    × (graph l.gathered ≡ keeping (graph l.initial.gathered) l.v l.yielded)
