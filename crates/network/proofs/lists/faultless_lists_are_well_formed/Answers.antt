use Rattle.network.proofs.ListForms.{faultless-well-formed}
use Rattle.network.proofs.lists.faultless_lists_are_well_formed.Goals as goal

pub returns : goal.returns
returns c = faultless-well-formed
