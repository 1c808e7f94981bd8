use Rattle.network.specs.Lists.{one_sided_fault}
use Rattle.network.proofs.name_lists.RisingLists.check_both_sides.Given as goal

abbrev pub ghost-check_rows : goal.ghost-check_rows
ghost-check_rows a = one_sided_fault a.self.now.starts.now a.self.now.names.now
