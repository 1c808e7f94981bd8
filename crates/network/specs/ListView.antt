-- A list network by the two lists that it stands on.
use Rattle.std.specs.Prelude.{ℕ, List}
use Rattle.network.specs.declared.list_network.ListNetwork.{ListNetwork}

abbrev pub starts_in : ListNetwork → List ℕ
starts_in network = network.lists.lists.starts.now

abbrev pub names_in : ListNetwork → List ℕ
names_in network = network.lists.lists.names.now
