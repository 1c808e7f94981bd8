use Rattle.std.proofs.Common.{ℕ, ◌+◌, ◌-◌, ◌*◌, ◌<◌, ◌≤◌}
use Rattle.network.specs.Parts.{pair_key}
use Rattle.network.proofs.sheets.SheetNetwork.has_pair.Given as goal

abbrev pub invariant-loop-low : goal.invariant-loop-low
invariant-loop-low l =
    (l.low ≤ l.high) × (l.high ≤ l.self.counts.couplings)
    × ((k : ℕ) → k < l.low → pair_key l.self.bytes.now l.self.counts.bits k < l.larger * 512 + l.smaller)
    × ((k : ℕ) → l.high ≤ k → k < l.self.counts.couplings → l.larger * 512 + l.smaller < pair_key l.self.bytes.now l.self.counts.bits k)

abbrev pub decreases-loop-low : goal.decreases-loop-low
decreases-loop-low l = l.high - l.low
