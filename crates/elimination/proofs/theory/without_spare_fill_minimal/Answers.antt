use Rattle.elimination.proofs.Statements.{without-spare-fill-minimal}
use Rattle.elimination.proofs.theory.without_spare_fill_minimal.Goals as goal

pub returns : goal.returns
returns c = without-spare-fill-minimal
