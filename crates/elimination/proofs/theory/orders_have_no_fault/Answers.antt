use Rattle.elimination.proofs.Listing.{order-fault, fault-order}
use Rattle.elimination.proofs.theory.orders_have_no_fault.Goals as goal

pub returns : goal.returns
returns c n xs few = (order-fault xs n few, fault-order xs n)
