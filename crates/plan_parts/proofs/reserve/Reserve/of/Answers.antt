use Rattle.std.proofs.Common.{◌≡◌, ℕ, ◌≤◌, sym, ap, ◌∙◌, subst}
use Rattle.elimination.specs.declared.order.EliminationOrder.{EliminationOrder}
use Rattle.elimination.specs.declared.pair_set.PairSet.{PairSet}
use Rattle.elimination.specs.Graphs.{Graph, Simple}
use Rattle.elimination.specs.View.{graph, listed}
use Rattle.elimination.proofs.Listing.{order-of, listed-length}
use Rattle.elimination.proofs.Relations.{closed-from}
use Rattle.plan_parts.specs.Layout.{Closed}
use Rattle.plan_parts.specs.Reserves.{Irreflexive, Below, Begins, by_position}
use Rattle.plan_parts.proofs.Plans.{pairs-closed, pairs-simple}
use Rattle.plan_parts.proofs.Positions.{position-irreflexive, position-below, position-closed}
use Rattle.plan_parts.proofs.reserve.Reserve.of.Goals as goal

pub by_positions-pairs-requires : goal.by_positions-pairs-requires
by_positions-pairs-requires c =
    subst (λ (o : EliminationOrder). Simple o.size (graph c.pairs.result.now)) (sym c.order.ensures)
    (subst (λ (F : PairSet). Simple c.args.elimination.now.order.size (graph F)) (sym c.pairs.ensures.value) (pairs-simple c.args.elimination.now))

pub invariant_of-result : goal.invariant_of-result
invariant_of-result c =
    let e = c.args.elimination.now in
    let xs = listed e.order in
    let n = e.order.size in
    let G : Graph = graph e.pairs in
    let F : Graph = graph c.by_positions-pairs.result in
    let placed : by_position G xs ≡ F =
    sym (c.by_positions-pairs.ensures ∙ ap (λ (K : PairSet). by_position (graph K) (listed c.order.result.now)) c.pairs.ensures.value ∙ ap (λ (o : EliminationOrder). by_position G (listed o)) c.order.ensures) in
    let simple = pairs-simple e in
    let l = listed-length e.order in
    let below : Below (by_position G xs) n = subst (λ (m : ℕ). Below (by_position G xs) m) l (position-below G xs) in
    let closed : Closed (by_position G xs) n = subst (λ (m : ℕ). Closed (by_position G xs) m) l (position-closed G xs simple.symmetric (order-of e.order).once (closed-from G xs (pairs-closed e))) in
    let sized : n ≡ c.order.result.now.size = ap (λ (o : EliminationOrder). o.size) (sym c.order.ensures) in
    record {
      some = subst (λ (m : ℕ). 1 ≤ m) sized e.some;
      symmetric = c.by_positions-pairs.result.mirrored;
      irreflexive = subst Irreflexive placed (position-irreflexive G xs simple.irreflexive);
      below = subst (Below F) sized (subst (λ (K : Graph). Below K n) placed below);
      closed = subst (Closed F) sized (subst (λ (K : Graph). Closed K n) placed closed);
      begins = subst (λ (m : ℕ). Begins F m c.column_starts-starts.result) c.size.ensures c.column_starts-starts.ensures;
    }
