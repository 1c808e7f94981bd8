use Rattle.elimination.specs.View.{graph, listed}
use Rattle.elimination.proofs.Leaving.{Leaving}
use Rattle.elimination.proofs.filling.gather.Given as goal

abbrev pub invariant-loop-station : goal.invariant-loop-station
invariant-loop-station l = Leaving l.order.size (graph l.initial.work) (listed l.order) l.station-index (graph l.work) (graph l.gathered)
