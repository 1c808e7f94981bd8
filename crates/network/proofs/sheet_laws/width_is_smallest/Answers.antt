use Rattle.network.proofs.Widths.{width-is-smallest}
use Rattle.network.proofs.sheet_laws.width_is_smallest.Goals as goal

pub returns : goal.returns
returns c = width-is-smallest
