use Rattle.elimination.proofs.Statements.{less-fill-leaves-a-spare-pair}
use Rattle.elimination.proofs.theory.less_fill_leaves_a_spare_pair.Goals as goal

pub returns : goal.returns
returns c = less-fill-leaves-a-spare-pair
