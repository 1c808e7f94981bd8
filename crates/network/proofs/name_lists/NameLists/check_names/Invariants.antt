use Rattle.network.specs.Lists.{name_fault}
use Rattle.network.proofs.name_lists.NameLists.check_names.Given as goal

abbrev pub ghost-check_rows : goal.ghost-check_rows
ghost-check_rows a = name_fault a.self.now.starts.now a.self.now.names.now
