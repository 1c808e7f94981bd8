use Rattle.std.proofs.Common.{◌≡◌}
use Rattle.elimination.specs.View.{graph}
use Rattle.plan_parts.proofs.Couplings.{pairs_among}
use Rattle.plan_parts.proofs.plan.couplings.couplings_of.Given as goal

abbrev pub invariant-loop-a : goal.invariant-loop-a
invariant-loop-a g l = graph l.set ≡ pairs_among (g.N.Network.meaning l.network).coupled l.a
