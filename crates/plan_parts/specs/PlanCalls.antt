-- What a listed call asks of a plan.
use Rattle.plan_parts.specs.PlanStates.{Asked}
use Rattle.plan_parts.specs.PlanStates.Asked.{load_call, tighten_call, seat_call}
use Rattle.plan_parts.specs.declared.plan.plan_call.PlanCall.{PlanCall}
use Rattle.plan_parts.specs.declared.plan.plan_call.PlanCall.TheVariants.{Load, Tighten, Seat}

abbrev pub asked : PlanCall → Asked
asked (Load order) = load_call order.now
asked Tighten = tighten_call
asked (Seat station) = seat_call station
