use Rattle.std.proofs.Common.{slice_index}
use Rattle.network.specs.Lists.{list_size}
use Rattle.network.specs.ListLaws.{no-fault, name-none, name-fits}
use Rattle.network.proofs.name_lists.RisingLists.check_side.Goals as goal

pub is_named-requires : goal.is_named-requires
is_named-requires c =
    let lists = c.args.self.now.lists in
    let n = list_size lists.starts.now in
    let s = c.args.namer in
    let k = c.args.k in
    rw c.name_at.ensures ((name-fits lists.names.now n (slice_index lists.starts.now s) s k
    (name-none lists.starts.now lists.names.now n (no-fault _ c.args.self.now.rising) s k c.requires.0 c.requires.1 c.requires.2)).0)
