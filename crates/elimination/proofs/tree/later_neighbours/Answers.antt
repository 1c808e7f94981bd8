use Rattle.std.proofs.Common.{ℕ, ◌<◌, ◌^◌, Bool, cond, arith, rules}
use Rattle.std.specs.List.{count_by}
use Rattle.std.proofs.lemmas.Iterator.{YieldsList-from_map, YieldsList-from_slice}
use Rattle.std.proofs.lemmas.Iterator.Adapters.{serves_from_places}
use Rattle.std.proofs.lemmas.Iterator.Consumers.{fits_by_from_yields_list}
use Rattle.std.proofs.lemmas.List.{get_or_default}
use Rattle.std.proofs.lemmas.List.Sums.{count_by-le-length}
use Rattle.elimination.specs.View.{graph}
use Rattle.elimination.proofs.tree.later_neighbours.Goals as goal

pub sum-requires-clause-can : goal.sum-requires-clause-can
sum-requires-clause-can c = (
  tt,
  serves_from_places (YieldsList-from_slice c.later.result.now (search rules)) (λ x q call. search rules)
      (λ x k h e.
      let small : x.now < 512 = omega (arith, e, get_or_default c.later.result.now k x.now 0 h, c.later.ensures.small k h, c.args.order.now.few) in
      search rules),
)

pub sum-requires-clause-fits : goal.sum-requires-clause-fits
sum-requires-clause-fits c =
    let paired : ℕ → Bool = graph c.args.pairs.now c.args.station in
    let h : ℕ → ℕ = λ x. cond (paired x) 1 0 in
    let bound : count_by paired c.later.result.now < 2 ^ 16 = omega (arith, count_by-le-length paired c.later.result.now, c.later.ensures.fewer, c.args.order.now.few) in
    fits_by_from_yields_list h c.later.result.now c.map.result _ (YieldsList-from_map _ h (YieldsList-from_slice c.later.result.now (search rules)) c.map.ensures.closure (λ x r q k. search rules)) bound
