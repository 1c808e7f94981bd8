use Rattle.std.proofs.Common.{◌≡◌}
use Rattle.elimination.specs.View.{graph}
use Rattle.elimination.proofs.Walks.{cut}
use Rattle.elimination.proofs.pair_set.PairSet.isolate.Given as goal

abbrev pub invariant-loop-a : goal.invariant-loop-a
invariant-loop-a l =
    (goal.iterator-loop-a).can_next l.a-iterator × (goal.iterator-loop-a).is_finite l.a-iterator
    × (graph l.self ≡ cut (graph l.initial.self) l.v l.yielded)
