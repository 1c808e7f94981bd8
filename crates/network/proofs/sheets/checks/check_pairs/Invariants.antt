use Rattle.std.proofs.Common.{◌≡◌, ◌+◌, ◌*◌, ◌≤◌, None}
use Rattle.network.specs.Decode.{place_for, pair_fault}
use Rattle.network.specs.Refusals.{first_fault}
use Rattle.network.proofs.Rising.{pair_before}
use Rattle.network.proofs.sheets.checks.check_pairs.Given as goal

abbrev pub invariant-loop : goal.invariant-loop
invariant-loop l =
    (l.reader.at ≡ place_for l.counts.bits (2 * l.counter))
    × (l.reader.at ≤ 32 + 18 * l.counter)
    × (l.last ≡ pair_before l.initial.reader.bytes.now l.counts.bits l.counter)
    × (first_fault (pair_fault l.initial.reader.bytes.now l.counts.stations l.counts.bits) l.counter ≡ None)
    × (l.reader.bytes.now ≡ l.initial.reader.bytes.now)
