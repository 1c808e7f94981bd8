use Rattle.std.proofs.Common.{false, [], sym, ◌∙◌, subst, rules}
use Rattle.elimination.specs.Orders.{up_to}
use Rattle.elimination.specs.View.{graph}
use Rattle.plan_parts.specs.PlanStates.{PlanState, PlanHistory}
use Rattle.plan_parts.specs.PlanStates.PlanHistory.{opened}
use Rattle.plan_parts.proofs.Plans.{opened-simple}
use Rattle.plan_parts.proofs.plan.Plan.open.Goals as goal

pub of-requires-clause-simple : goal.of-requires-clause-simple
of-requires-clause-simple g c =
    let net = g.N.Network.meaning c.args.network.now in
    opened-simple net (g.N.Network.lawful c.args.network.now) c.rising-order.result.size (graph c.couplings_of.result) (c.rising-order.ensures.size ∙ c.size.ensures) c.couplings_of.ensures

pub returns-clause-history : goal.returns-clause-history
returns-clause-history g c =
    let net = g.N.Network.meaning c.args.network.now in
    subst (λ (s : PlanState). PlanHistory [] (up_to net.size) false s) (sym (search rules)) (opened net (g.N.Network.lawful c.args.network.now))
