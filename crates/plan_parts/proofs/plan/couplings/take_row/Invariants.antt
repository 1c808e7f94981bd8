use Rattle.std.proofs.Common.{◌≡◌}
use Rattle.elimination.specs.Graphs.{union}
use Rattle.elimination.specs.View.{graph}
use Rattle.plan_parts.specs.Plans.{pairs_below}
use Rattle.plan_parts.proofs.plan.couplings.take_row.Given as goal

abbrev pub invariant-loop-b : goal.invariant-loop-b
invariant-loop-b g l = graph l.set ≡ union (graph l.initial.set) (pairs_below (g.N.Network.meaning l.network).coupled l.a l.b)
