use Rattle.std.proofs.Common.{◌≡◌, ℕ, List, length, take, sym, subst, arith}
use Rattle.elimination.specs.Orders.{Order, up_to}
use Rattle.elimination.proofs.Listing.{order-fault, up_to-order, up_to-places}
use Rattle.elimination.proofs.order.calls.rising_places.Goals as goal

pub returns : goal.returns
returns c =
    let stations = c.loop-k.station-items in
    let long : length stations ≡ 512 = c.loop-k-test.array_long in
    let list : take c.args.n stations ≡ up_to c.args.n = up_to-places stations c.args.n (omega arith) (λ j h. c.loop-k.invariant j (omega arith)) in
    record {
      list = list;
      named = order-fault (take c.args.n stations) c.args.n c.requires (subst (λ (xs : List ℕ). Order c.args.n xs) (sym list) (up_to-order c.args.n));
    }
