use Rattle.elimination.proofs.Listing.{listed-length, listed_small}
use Rattle.elimination.proofs.order.EliminationOrder.stations.Goals as goal

pub returns-clause-all : goal.returns-clause-all
returns-clause-all c = listed-length c.args.self.now

pub returns-clause-small : goal.returns-clause-small
returns-clause-small c = listed_small c.args.self.now
