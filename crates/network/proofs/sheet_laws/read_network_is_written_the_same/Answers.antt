use Rattle.network.proofs.SheetNets.{read-lawful, read-ordered, read-same-sheet, read-same-bytes}
use Rattle.network.proofs.sheet_laws.read_network_is_written_the_same.Goals as goal

pub returns : goal.returns
returns c = record { lawful = read-lawful; ordered = read-ordered; sheet = read-same-sheet; bytes = read-same-bytes }
