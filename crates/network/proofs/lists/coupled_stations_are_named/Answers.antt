use Rattle.network.proofs.ListForms.{coupled-are-named}
use Rattle.network.proofs.lists.coupled_stations_are_named.Goals as goal

pub returns : goal.returns
returns c = coupled-are-named
