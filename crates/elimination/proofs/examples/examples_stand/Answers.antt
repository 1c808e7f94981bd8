use Rattle.std.proofs.Common.{refl}
use Rattle.network.specs.Bits.{count_to}
use Rattle.network.specs.Orders.{station_fault, named_before}
use Rattle.network.specs.Refusals.{first_fault}
use Rattle.elimination.specs.Elimination.{pairs_below}
use Rattle.elimination.proofs.examples.examples_stand.Goals as goal

pub returns : goal.returns
unfolding pairs_below count_to station_fault named_before first_fault
returns c = refl
