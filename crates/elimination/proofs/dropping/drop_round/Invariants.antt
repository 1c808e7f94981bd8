use Rattle.elimination.specs.View.{graph}
use Rattle.elimination.proofs.Drops.{RoundTurn}
use Rattle.elimination.proofs.dropping.drop_round.Given as goal

abbrev pub invariant-loop-u : goal.invariant-loop-u
invariant-loop-u l = RoundTurn l.n (graph l.couplings) (graph l.initial.pairs) l.u (graph l.pairs) l.again l.lost
