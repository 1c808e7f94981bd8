use Rattle.elimination.proofs.Statements.{spare-pairs-can-go}
use Rattle.elimination.proofs.theory.spare_pairs_can_go.Goals as goal

pub returns : goal.returns
returns c = spare-pairs-can-go
