-- A plan as its user sees it.
use Rattle.elimination.specs.View.{graph, listed}
use Rattle.plan_parts.specs.PlanStates.{PlanState}
use Rattle.plan_parts.specs.declared.plan.Plan.{Plan}

-- its network, its order and its refused number
abbrev pub view : Plan → PlanState
view p = record { net = record { size = p.elimination.order.size; coupled = graph p.elimination.couplings }; order = listed p.elimination.order; refused = p.refused }
