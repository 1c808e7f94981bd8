use Rattle.elimination.specs.Dropping.{Looked, Ready, weight}
use Rattle.elimination.specs.Graphs.{Sub}
use Rattle.elimination.specs.View.{graph}
use Rattle.elimination.proofs.dropping.drop_spare.Given as goal

abbrev pub invariant-loop-again : goal.invariant-loop-again
invariant-loop-again l =
    Ready l.n (graph l.couplings) (graph l.pairs)
    × Sub (graph l.pairs) (graph l.initial.pairs)
    × Looked (graph l.couplings) (graph l.pairs) l.again

abbrev pub decreases-loop-again : goal.decreases-loop-again
decreases-loop-again l = weight (graph l.pairs)
