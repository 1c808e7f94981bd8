use Rattle.std.proofs.Common.{◌≡◌}
use Rattle.elimination.specs.Words.{rows}
use Rattle.elimination.proofs.Walks.{joining}
use Rattle.elimination.proofs.pair_set.joins.join_rows.Given as goal

abbrev pub invariant-loop-a : goal.invariant-loop-a
invariant-loop-a l =
    (goal.iterator-loop-a).can_next l.a-iterator × (goal.iterator-loop-a).is_finite l.a-iterator
    × (rows l.words ≡ joining (rows l.initial.words) l.v l.yielded)
