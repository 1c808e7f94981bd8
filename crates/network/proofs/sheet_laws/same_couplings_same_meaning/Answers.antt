use Rattle.network.proofs.SameMeaning.{same-meaning}
use Rattle.network.proofs.sheet_laws.same_couplings_same_meaning.Goals as goal

pub returns : goal.returns
returns c = same-meaning
