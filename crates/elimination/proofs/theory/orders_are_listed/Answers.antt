use Rattle.elimination.proofs.Arrangements.{orders-are-listed}
use Rattle.elimination.proofs.theory.orders_are_listed.Goals as goal

pub returns : goal.returns
returns c = orders-are-listed
