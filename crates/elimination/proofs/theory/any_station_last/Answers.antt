use Rattle.elimination.proofs.Statements.{any-station-last}
use Rattle.elimination.proofs.theory.any_station_last.Goals as goal

pub returns : goal.returns
returns c = any-station-last
