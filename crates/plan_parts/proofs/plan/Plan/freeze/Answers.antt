use Rattle.plan_parts.proofs.Histories.{freezes}
use Rattle.plan_parts.proofs.plan.Plan.freeze.Goals as goal

pub returns-clause-history : goal.returns-clause-history
returns-clause-history c = freezes _
