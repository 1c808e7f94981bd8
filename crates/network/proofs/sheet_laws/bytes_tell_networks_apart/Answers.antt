use Rattle.network.proofs.SheetNets.{bytes-tell-apart}
use Rattle.network.proofs.sheet_laws.bytes_tell_networks_apart.Goals as goal

pub returns : goal.returns
returns c = bytes-tell-apart
