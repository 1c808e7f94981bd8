use Rattle.std.proofs.Common.{ℕ, List, take}
use Rattle.elimination.specs.View.{graph}
use Rattle.elimination.proofs.Peel.{Peel}
use Rattle.elimination.proofs.perfect.perfect_stations.Given as goal

-- so many stations have left, and are written
abbrev pub invariant-loop-place : goal.invariant-loop-place
invariant-loop-place l =
    (rest : List ℕ) × Peel l.n l.last l.place-index (graph l.initial.pairs) (graph l.pairs) l.left (take l.place-index l.before_last) rest
