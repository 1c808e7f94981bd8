use Rattle.std.proofs.Common.{◌≡◌, ℕ, ◌<◌, ◌&&◌, true, cond, eqb, ltb, List, length, get_or, set, sym, ap, ◌∙◌, subst, arith}
use Rattle.elimination.specs.declared.order.EliminationOrder.{EliminationOrder}
use Rattle.elimination.specs.declared.pair_set.PairSet.{PairSet}
use Rattle.elimination.specs.Orders.{member, position_of}
use Rattle.elimination.specs.View.{graph, listed}
use Rattle.elimination.proofs.MemberWalks.{end-members, turn-member}
use Rattle.plan_parts.proofs.Marks.{mark-more, marks-all}
use Rattle.plan_parts.proofs.through.find_neighbours.Goals as goal

pub find-requires-clause-known : goal.find-requires-clause-known
find-requires-clause-known c =
    let near : graph c.args.elimination.now.couplings c.args.station c.in-Some.neighbour ≡ true =
    subst (λ (C : PairSet). graph C c.args.station c.in-Some.neighbour ≡ true) c.couplings.ensures
    (turn-member c.couplings.result.now.words c.args.station c.members-neighbour-items.result c.into_iter-neighbour-iterator.result c.into_iter-neighbour-iterator.ensures.into_iter_gives c.members-neighbour-items.ensures c.loop-neighbour.yielded c.loop-neighbour.neighbour-iterator _ c.loop-neighbour.yielded_by
    c.in-Some.neighbour c.in-Some.ensures.steps) in
    subst (λ (o : EliminationOrder). c.in-Some.neighbour < o.size) (sym c.order.ensures) (c.args.elimination.now.below c.args.station c.in-Some.neighbour near).1

pub loop-neighbour-preserved : goal.loop-neighbour-preserved
loop-neighbour-preserved c =
    let e = c.args.elimination.now in
    let k = c.in-Some.neighbour in
    let marks = c.loop-neighbour.marks in
    let near : graph c.args.elimination.now.couplings c.args.station c.in-Some.neighbour ≡ true =
    subst (λ (C : PairSet). graph C c.args.station c.in-Some.neighbour ≡ true) c.couplings.ensures
    (turn-member c.couplings.result.now.words c.args.station c.members-neighbour-items.result c.into_iter-neighbour-iterator.result c.into_iter-neighbour-iterator.ensures.into_iter_gives c.members-neighbour-items.ensures c.loop-neighbour.yielded c.loop-neighbour.neighbour-iterator _ c.loop-neighbour.yielded_by
    c.in-Some.neighbour c.in-Some.ensures.steps) in
    let known = e.below c.args.station k near in
    let room : k < length marks = omega (arith, known.1) in
    let more = mark-more (graph e.couplings) (listed e.order) c.args.position c.args.station c.args.marks.now marks c.loop-neighbour.yielded k c.loop-neighbour.invariant.2 near room in
    let found = c.find.ensures ∙ ap (λ (o : EliminationOrder). cond (ltb (position_of (listed o) k) c.args.position && eqb (get_or marks k 0) 0) (set marks k 1) marks) c.order.ensures in
    (tt, tt, λ j. ap (λ (bs : List ℕ). get_or bs j 0) found ∙ more j)

pub returns-clause-marks : goal.returns-clause-marks
returns-clause-marks c =
    let e = c.args.elimination.now in
    let all : (x : ℕ) → member x c.loop-neighbour.yielded ≡ graph e.couplings c.args.station x =
    subst (λ (C : PairSet). (x : ℕ) → member x c.loop-neighbour.yielded ≡ graph C c.args.station x) c.couplings.ensures
    (end-members c.couplings.result.now.words c.args.station c.members-neighbour-items.result c.into_iter-neighbour-iterator.result c.into_iter-neighbour-iterator.ensures.into_iter_gives c.members-neighbour-items.ensures c.loop-neighbour.yielded c.loop-neighbour.neighbour-iterator _ c.loop-neighbour.yielded_by c.in-None.ensures.steps) in
    marks-all (graph e.couplings) (listed e.order) c.args.position c.args.station c.args.marks.now c.loop-neighbour.marks c.loop-neighbour.yielded c.loop-neighbour.invariant.2 all
