use Rattle.plan_parts.proofs.StationPlaces.{filled-pairs-are-grounded}
use Rattle.plan_parts.proofs.reserve.laws.filled_pairs_are_grounded.Goals as goal

pub returns : goal.returns
returns c = filled-pairs-are-grounded
