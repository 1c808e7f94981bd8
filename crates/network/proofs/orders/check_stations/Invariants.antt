use Rattle.std.proofs.Common.{◌≡◌, ℕ, ◌<◌, None}
use Rattle.network.specs.Refusals.{first_fault}
use Rattle.network.specs.Orders.{station_fault, among}
use Rattle.network.specs.Seen.{is_seen}
use Rattle.network.proofs.orders.check_stations.Given as goal

abbrev pub invariant-loop-k : goal.invariant-loop-k
invariant-loop-k l =
    (first_fault (station_fault l.order l.n) l.k ≡ None)
    × ((v : ℕ) → v < 512 → is_seen l.seen v ≡ among l.order l.k v)
