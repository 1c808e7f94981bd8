use Rattle.network.proofs.Nexts.{next-smallest}
use Rattle.network.proofs.next_is_smallest.Goals as goal

pub returns : goal.returns
returns c = next-smallest
