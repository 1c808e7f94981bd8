use Rattle.elimination.specs.View.{graph}
use Rattle.elimination.proofs.Drops.{RowTurn}
use Rattle.elimination.proofs.dropping.drop_in_row.Given as goal

abbrev pub invariant-loop-v : goal.invariant-loop-v
invariant-loop-v l =
    (goal.iterator-loop-v).can_next l.v-iterator × (goal.iterator-loop-v).is_finite l.v-iterator
    × RowTurn (graph l.couplings) (graph l.initial.pairs) l.initial.again l.u l.yielded (graph l.pairs) l.again l.dropped
