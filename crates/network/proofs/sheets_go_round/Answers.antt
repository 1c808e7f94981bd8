use Rattle.network.proofs.Trips.{written-reads, read-writes}
use Rattle.network.proofs.Wells.{read-well}
use Rattle.network.proofs.sheets_go_round.Goals as goal

pub returns : goal.returns
returns c = record { written = written-reads; read = read-writes; well = read-well }
