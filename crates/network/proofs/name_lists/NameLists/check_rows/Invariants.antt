use Rattle.std.proofs.Common.{◌≡◌, None}
use Rattle.network.specs.Refusals.{first_fault}
use Rattle.network.specs.Lists.{row_fault}
use Rattle.network.proofs.name_lists.NameLists.check_rows.Given as goal

-- the lists of the earlier stations have no fault
abbrev pub invariant-loop-station : goal.invariant-loop-station
invariant-loop-station g l = first_fault (row_fault l.self.starts.now g.found) l.station ≡ None

abbrev pub ghost-check_row : goal.ghost-check_row
ghost-check_row g a = g.found
