use Rattle.plan_parts.proofs.StationPlaces.{filled-places-are-closed}
use Rattle.plan_parts.proofs.reserve.laws.filled_places_are_closed.Goals as goal

pub returns : goal.returns
returns c = filled-places-are-closed
