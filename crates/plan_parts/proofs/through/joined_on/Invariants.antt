use Rattle.std.proofs.Common.{◌≡◌, length}
use Rattle.elimination.specs.View.{graph, listed}
use Rattle.plan_parts.proofs.Reaching.{before}
use Rattle.plan_parts.proofs.Searching.{Search, left}
use Rattle.plan_parts.proofs.through.joined_on.Given as goal

abbrev pub invariant-loop-station : goal.invariant-loop-station
invariant-loop-station l =
    Search (graph l.elimination.couplings) (before (listed l.elimination.order) l.position) l.elimination.order.size l.a l.b l.board.marks.now
    × (length l.board.marks.now ≡ l.elimination.order.size)

abbrev pub decreases-loop-station : goal.decreases-loop-station
decreases-loop-station l = left l.elimination.order.size l.board.marks.now
