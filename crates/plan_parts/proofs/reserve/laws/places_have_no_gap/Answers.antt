use Rattle.plan_parts.proofs.Numbering.{numbered}
use Rattle.plan_parts.proofs.reserve.laws.places_have_no_gap.Goals as goal

pub returns : goal.returns
returns c = numbered
