use Rattle.network.specs.ListLaws.{no-fault}
use Rattle.network.proofs.ListRows.{list-within}
use Rattle.network.proofs.name_lists.NameLists.part_of.Goals as goal

pub returns-clause-order : goal.returns-clause-order
returns-clause-order c =
    let lists = c.args.self.now in
    (list-within lists.starts.now lists.names.now (no-fault _ lists.fitting) c.args.station c.requires).0

pub returns-clause-within : goal.returns-clause-within
returns-clause-within c =
    let lists = c.args.self.now in
    (list-within lists.starts.now lists.names.now (no-fault _ lists.fitting) c.args.station c.requires).1
