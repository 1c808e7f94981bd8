use Rattle.network.proofs.SheetNets.{network-sheet-well, network-returns}
use Rattle.network.proofs.sheet_laws.written_network_returns.Goals as goal

pub returns : goal.returns
returns c = record { well = network-sheet-well; same = network-returns }
