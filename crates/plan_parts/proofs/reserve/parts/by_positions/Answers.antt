use Rattle.std.proofs.Common.{◌∙◌}
use Rattle.elimination.specs.View.{graph, listed}
use Rattle.plan_parts.specs.Reserves.{by_position}
use Rattle.plan_parts.proofs.Positions.{rows_more}
use Rattle.plan_parts.proofs.reserve.parts.by_positions.Goals as goal

pub loop-i-preserved : goal.loop-i-preserved
loop-i-preserved c = c.place_pairs.ensures ∙ rows_more (by_position (graph c.args.pairs.now) (listed c.args.order.now)) _ c.loop-i.i c.loop-i.invariant
