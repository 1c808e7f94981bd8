use Rattle.elimination.specs.Orders.{later}
use Rattle.elimination.specs.View.{listed}
use Rattle.elimination.proofs.Afterwards.{last-at}
use Rattle.elimination.proofs.tree.parent_in.Goals as goal

pub returns : goal.returns
returns c = let e = last-at (later (listed c.args.order.now) c.args.station) in cc
