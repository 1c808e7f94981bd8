use Rattle.std.proofs.Common.{◌≡◌, ℕ, ◌+◌, ◌*◌, ◌<◌, ◌≤◌, None}
use Rattle.network.specs.Decode.{place_for, value_at, placed_fault}
use Rattle.network.specs.Orders.{named_before}
use Rattle.network.specs.Refusals.{first_fault}
use Rattle.network.specs.Seen.{is_seen}
use Rattle.network.proofs.sheets.checks.check_stations.Given as goal

abbrev pub invariant-loop : goal.invariant-loop
invariant-loop l =
    (l.reader.at ≡ place_for l.counts.bits (2 * l.counts.couplings + l.counter))
    × (l.reader.at ≤ 32 + 9 * (2 * l.counts.couplings + l.counter))
    × (first_fault (placed_fault l.initial.reader.bytes.now l.counts.stations l.counts.bits (2 * l.counts.couplings)) l.counter ≡ None)
    × ((v : ℕ) → v < 512 → is_seen l.seen v ≡ named_before (λ i. value_at l.initial.reader.bytes.now l.counts.bits (2 * l.counts.couplings + i)) l.counter v)
    × (l.reader.bytes.now ≡ l.initial.reader.bytes.now)
