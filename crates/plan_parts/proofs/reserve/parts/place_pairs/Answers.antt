use Rattle.std.proofs.Common.{◌≡◌, ℕ, true, get_or, sym, ap, ◌∙◌, subst, arith}
use Rattle.elimination.specs.Graphs.{Graph, including}
use Rattle.elimination.specs.Orders.{member}
use Rattle.elimination.specs.View.{graph, listed}
use Rattle.elimination.proofs.Listing.{order-of, listed-length}
use Rattle.elimination.proofs.MemberWalks.{end-members, turn-member}
use Rattle.plan_parts.proofs.Positions.{placed-more, placed-all}
use Rattle.plan_parts.proofs.reserve.parts.place_pairs.Goals as goal

pub overflow_cast-b : goal.overflow_cast-b
overflow_cast-b c =
    let paired = turn-member c.args.pairs.now.words c.args.station c.members-b-items.result c.into_iter-b-iterator.result c.into_iter-b-iterator.ensures.into_iter_gives c.members-b-items.ensures c.loop-b.yielded c.loop-b.b-iterator _ c.loop-b.yielded_by
    c.in-Some.b c.in-Some.ensures.steps in
    omega (arith, (c.requires.simple.below c.args.station c.in-Some.b paired).1, c.args.order.now.few)

pub position-requires : goal.position-requires
position-requires c =
    let paired = turn-member c.args.pairs.now.words c.args.station c.members-b-items.result c.into_iter-b-iterator.result c.into_iter-b-iterator.ensures.into_iter_gives c.members-b-items.ensures c.loop-b.yielded c.loop-b.b-iterator _ c.loop-b.yielded_by
    c.in-Some.b c.in-Some.ensures.steps in
    (c.requires.simple.below c.args.station c.in-Some.b paired).1

pub loop-b-preserved : goal.loop-b-preserved
loop-b-preserved c =
    let order = c.args.order.now in
    let l = listed-length order in
    let G : Graph = graph c.args.pairs.now in
    let paired = turn-member c.args.pairs.now.words c.args.station c.members-b-items.result c.into_iter-b-iterator.result c.into_iter-b-iterator.ensures.into_iter_gives c.members-b-items.ensures c.loop-b.yielded c.loop-b.b-iterator _ c.loop-b.yielded_by
    c.in-Some.b c.in-Some.ensures.steps in
    let here : G (get_or (listed order) c.args.i 0) c.in-Some.b ≡ true = subst (λ (a : ℕ). G a c.in-Some.b ≡ true) (sym c.requires.station) paired in (
      tt,
      tt,
      c.insert.ensures ∙ ap (λ (K : Graph). including K c.args.i c.position.result) c.loop-b.invariant.2
          ∙ placed-more G (listed order) c.args.i (order-of order).once (omega arith) (graph c.args.placed.now) c.loop-b.yielded c.in-Some.b c.position.result here (omega (arith, c.position.ensures.small)) c.position.ensures.there,
    )

pub returns : goal.returns
returns c =
    let G : Graph = graph c.args.pairs.now in
    let all : (x : ℕ) → member x c.loop-b.yielded ≡ G c.args.station x =
    end-members c.args.pairs.now.words c.args.station c.members-b-items.result c.into_iter-b-iterator.result c.into_iter-b-iterator.ensures.into_iter_gives c.members-b-items.ensures c.loop-b.yielded c.loop-b.b-iterator _ c.loop-b.yielded_by c.in-None.ensures.steps in
    c.loop-b.invariant.2
    ∙ placed-all G (listed c.args.order.now) c.args.i (graph c.args.placed.now) c.loop-b.yielded c.requires.simple.symmetric (subst (λ (a : ℕ). (x : ℕ) → member x c.loop-b.yielded ≡ G a x) (sym c.requires.station) all)
