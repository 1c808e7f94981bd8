use Rattle.std.proofs.Common.{◌≡◌, true, List, ℕ, take, sym, ap, ◌∙◌}
use Rattle.elimination.specs.Graphs.{Graph, closed}
use Rattle.elimination.specs.View.{graph, listed}
use Rattle.elimination.proofs.Least.{filled-holds}
use Rattle.elimination.proofs.Listing.{fault-own, order-fault, order-length, order-sized}
use Rattle.elimination.proofs.Tightening.{fills-within}
use Rattle.elimination.proofs.perfect.perfect_order.Goals as goal

pub of-requires : goal.of-requires
of-requires c =
    let ys : List ℕ = take c.args.size c.perfect_stations-stations.result in
    fault-own ys c.args.size (order-fault ys c.args.size c.requires.few c.perfect_stations-stations.ensures.order)

sized : (c : goal.After-of) → c.of.result.size ≡ c.args.size
sized c = c.of.ensures.size ∙ order-length c.args.size (take c.args.size c.perfect_stations-stations.result) c.perfect_stations-stations.ensures.order

pub returns-clause-size : goal.returns-clause-size
returns-clause-size c = sized c

pub returns-clause-within : goal.returns-clause-within
returns-clause-within c C xs s e =
    let G : Graph = graph c.args.pairs.now in
    let new = c.of.result in
    let closes : closed G (listed new) ≡ true = ap (λ (ys : List ℕ). closed G ys) c.of.ensures.list ∙ c.perfect_stations-stations.ensures.closed in
    fills-within c.args.size C s G xs (listed new)
    (λ a b h. ap (λ (K : Graph). K a b) e ∙ filled-holds C xs a b h) (λ a b h. sym (ap (λ (K : Graph). K a b) e) ∙ h) (order-sized new c.args.size (sized c)) closes
