use Rattle.std.proofs.Common.{◌≡◌, ◌+◌, ◌-◌, None, slice_index}
use Rattle.network.specs.Refusals.{first_fault}
use Rattle.network.proofs.name_lists.NameLists.check_row.Given as goal

-- the names of the list before k have no fault
abbrev pub invariant-loop-k : goal.invariant-loop-k
invariant-loop-k g l =
    first_fault (λ j. g.found l.station (slice_index l.self.starts.now l.station + j)) (l.k - slice_index l.self.starts.now l.station) ≡ None
