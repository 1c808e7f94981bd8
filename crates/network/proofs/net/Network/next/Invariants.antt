use Rattle.std.proofs.Common.{◌≡◌, ℕ, ◌-◌, ◌<◌, ◌≤◌, false}
use Rattle.network.proofs.net.Network.next.Given as goal

-- nothing was passed over: no station from `from` on and before t is coupled with the named one
abbrev pub invariant-loop-t : goal.invariant-loop-t
invariant-loop-t g l =
    (l.from ≤ l.t)
    × ((k : ℕ) → l.from ≤ k → k < l.t → (g.Self.Network.meaning l.self).coupled l.station k ≡ false)

abbrev pub decreases-loop-t : goal.decreases-loop-t
decreases-loop-t g l = l.size - l.t
