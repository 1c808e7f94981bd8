use Rattle.plan_parts.proofs.Histories.{asks}
use Rattle.plan_parts.proofs.plan.Plan.count.Goals as goal

pub returns-in_err-in_range-clause-history : goal.returns-in_err-in_range-clause-history
returns-in_err-in_range-clause-history c = asks _ _

pub returns-clause-history : goal.returns-clause-history
returns-clause-history c = asks _ _
