use Rattle.std.proofs.Common.{refl}
use Rattle.elimination.specs.Graphs.{Graph}
use Rattle.elimination.specs.View.{graph}
use Rattle.plan_parts.proofs.Couplings.{below_more}
use Rattle.plan_parts.proofs.plan.couplings.take_row.Goals as goal

pub loop-b-preserved : goal.loop-b-preserved
loop-b-preserved g c =
    let K : Graph = (g.N.Network.meaning c.args.network.now).coupled in
    let more = below_more (graph c.args.set.now) K c.args.a c.loop-b.b (K c.args.a c.loop-b.b) (g.N.Network.lawful c.args.network.now).symmetric refl in
    rw c.take_pair.ensures (rw c.loop-b.invariant more)
