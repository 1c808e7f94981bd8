use Rattle.std.proofs.Common.{ℕ, List, get_or, sym, refl, ap, arith}
use Rattle.elimination.specs.View.{graph, listed}
use Rattle.elimination.proofs.Listing.{order-of, listed-length}
use Rattle.elimination.proofs.Leaving.{leaving-start, leaving-step, leaving-end}
use Rattle.elimination.proofs.filling.gather.Goals as goal

pub loop-station-init : goal.loop-station-init
loop-station-init c =
    leaving-start c.args.order.now.size (graph c.args.pairs) (listed c.args.order.now) _ _ (order-of c.args.order.now) c.requires refl c.empty-gathered.ensures

pub loop-station-preserved : goal.loop-station-preserved
loop-station-preserved c =
    let l = listed-length c.args.order.now in
    leaving-step c.args.order.now.size (graph c.args.pairs) (listed c.args.order.now) c.loop-station.station-index _ _ _ _ _ (omega (arith, c.stations-station-items.ensures.all))
    (ap (λ (xs : List ℕ). get_or xs c.loop-station.station-index 0) (sym c.stations-station-items.ensures.list)) c.leave.ensures c.keep_pairs.ensures c.loop-station.invariant

pub returns : goal.returns
returns c =
    let l = listed-length c.args.order.now in
    leaving-end c.args.order.now.size (graph c.args.pairs) (listed c.args.order.now) c.loop-station.station-index _ _ (omega (arith, c.stations-station-items.ensures.all)) c.loop-station.invariant
