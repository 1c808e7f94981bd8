use Rattle.std.proofs.Common.{rules}
use Rattle.network.proofs.name_lists.NameLists.check_names.Goals as goal

pub check_rows-requires : goal.check_rows-requires
check_rows-requires c κs le = (search rules depth 12 fits 50000, (search rules, search rules))
