use Rattle.std.proofs.Common.{refl, lit≤}
use Rattle.network.specs.Refusals.{first_fault}
use Rattle.network.specs.Lists.{lists_fault, row_fault}
use Rattle.network.proofs.list_network.ListNetwork.lone.Goals as goal

pub invariant_of-lists : goal.invariant_of-lists
unfolding first_fault
invariant_of-lists c = record { some = lit≤ tt; few = lit≤ tt; fitting = refl }

pub invariant_of-result : goal.invariant_of-result
unfolding first_fault row_fault
invariant_of-result c = record { rising = refl }

pub invariant_of-result-2 : goal.invariant_of-result-2
unfolding lists_fault first_fault row_fault
invariant_of-result-2 c = record { faultless = refl }
