use Rattle.plan_parts.proofs.Histories.{asks}
use Rattle.plan_parts.proofs.plan.Plan.refused.Goals as goal

pub returns-clause-history : goal.returns-clause-history
returns-clause-history c = asks _ _
