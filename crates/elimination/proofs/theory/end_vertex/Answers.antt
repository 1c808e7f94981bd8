use Rattle.elimination.proofs.Statements.{end-vertices}
use Rattle.elimination.proofs.theory.end_vertex.Goals as goal

pub returns : goal.returns
returns c = end-vertices
