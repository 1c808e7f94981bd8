use Rattle.plan_parts.proofs.StationPlaces.{places-for-filled-pairs}
use Rattle.plan_parts.proofs.reserve.laws.places_for_filled_pairs.Goals as goal

pub returns : goal.returns
returns c = places-for-filled-pairs
