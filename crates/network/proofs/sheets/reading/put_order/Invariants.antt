use Rattle.std.proofs.Common.{◌≡◌, ◌+◌, ◌*◌, map, take}
use Rattle.std.specs.List.{range_with_len}
use Rattle.network.specs.Decode.{value_at}
use Rattle.network.proofs.sheets.reading.put_order.Given as goal

-- the first k stations are written
abbrev pub invariant-loop-k : goal.invariant-loop-k
invariant-loop-k l = take l.k l.front ≡ map (λ k. value_at l.sheet l.counts.bits (2 * l.counts.couplings + k)) (range_with_len 0 l.k)
