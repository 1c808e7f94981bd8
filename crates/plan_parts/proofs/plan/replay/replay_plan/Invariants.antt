use Rattle.std.proofs.Common.{map, take}
use Rattle.plan_parts.specs.PlanCalls.{asked}
use Rattle.plan_parts.specs.PlanStates.{Replayed}
use Rattle.plan_parts.specs.PlanView.{view}
use Rattle.plan_parts.proofs.plan.replay.replay_plan.Given as goal

abbrev pub invariant-loop-call : goal.invariant-loop-call
invariant-loop-call g l = Replayed (g.N.Network.meaning l.network) (take l.call-index (map asked l.calls)) (view l.plan)
