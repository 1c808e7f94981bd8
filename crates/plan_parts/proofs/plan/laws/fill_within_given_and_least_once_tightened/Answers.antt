use Rattle.plan_parts.proofs.Histories.{fill-kept}
use Rattle.plan_parts.proofs.plan.laws.fill_within_given_and_least_once_tightened.Goals as goal

pub returns : goal.returns
returns c = fill-kept
