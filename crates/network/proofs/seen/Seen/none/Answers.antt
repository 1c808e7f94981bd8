use Rattle.network.proofs.Faults.{falses}
use Rattle.network.proofs.seen.Seen.none.Goals as goal

pub returns : goal.returns
returns c = falses 512
