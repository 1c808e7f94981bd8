use Rattle.elimination.proofs.Statements.{filled-by-paths}
use Rattle.elimination.proofs.theory.filled_by_paths.Goals as goal

pub returns : goal.returns
returns c = filled-by-paths
