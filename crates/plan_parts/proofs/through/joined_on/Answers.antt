use Rattle.std.proofs.Common.{◌≡◌, ℕ, List, length, get_or, set, sym, refl, ap, ◌∙◌, arith}
use Rattle.std.proofs.lemmas.List.{length-set}
use Rattle.std.proofs.lemmas.Bool.{false≢true}
use Rattle.elimination.specs.declared.order.EliminationOrder.{EliminationOrder}
use Rattle.elimination.specs.declared.pair_set.PairSet.{PairSet}
use Rattle.elimination.specs.Orders.{position_of}
use Rattle.elimination.specs.View.{graph, listed}
use Rattle.plan_parts.specs.Boards.{mark_after}
use Rattle.plan_parts.proofs.Reaching.{before, path-joined, joined-path}
use Rattle.plan_parts.proofs.Searching.{search-found, search-less, search-more, search-over}
use Rattle.plan_parts.proofs.through.joined_on.Goals as goal

-- the marks once the neighbours of a station were looked at
marks-more : (c : goal.After-find_neighbours) (k : ℕ)
    → get_or c.find_neighbours.new.marks k 0
    ≡ mark_after (graph c.args.elimination.now.couplings) (listed c.args.elimination.now.order) c.min-position.result c.in-Some.station (set c.loop-station.board.marks.now c.in-Some.station 2) k
marks-more c k =
    c.find_neighbours.ensures.marks k
    ∙ ap (λ (bs : List ℕ). mark_after (graph c.args.elimination.now.couplings) (listed c.args.elimination.now.order) c.min-position.result c.in-Some.station bs k) c.in-Some.ensures.marked

pub loop-station-smaller : goal.loop-station-smaller
loop-station-smaller c =
    let order = c.args.elimination.now.order in
    let first = c.in-Some.ensures.first in
    search-less (graph c.args.elimination.now.couplings) (before (listed order) c.min-position.result) order.size c.args.a c.args.b
    c.loop-station.board.marks.now c.loop-station.invariant.0 c.in-Some.station (omega (arith, first.1)) (omega arith) first.2 c.find_neighbours.new.marks (marks-more c)

pub loop-station-preserved : goal.loop-station-preserved
loop-station-preserved c =
    let order = c.args.elimination.now.order in
    let first = c.in-Some.ensures.first in (
      search-more (graph c.args.elimination.now.couplings) (before (listed order) c.min-position.result) order.size c.args.a c.args.b
          c.loop-station.board.marks.now c.loop-station.invariant.0 c.in-Some.station (omega (arith, first.1)) (omega arith) first.2 c.find_neighbours.new.marks (marks-more c)
          (ap (λ (C : PairSet). graph C c.in-Some.station c.args.b) (sym c.couplings.ensures) ∙ sym c.if-contains.ensures),
      c.find_neighbours.ensures.length ∙ ap length c.in-Some.ensures.marked ∙ length-set c.loop-station.board.marks.now c.in-Some.station 2 ∙ c.loop-station.invariant.1,
    )

placed : (o o' : EliminationOrder) → o ≡ o' → (s k : ℕ) → k ≡ position_of (listed o) s → k ≡ position_of (listed o') s
placed o o' e s k q = q ∙ ap (λ (r : EliminationOrder). position_of (listed r) s) e

pub returns-then-contains-clause-answer : goal.returns-then-contains-clause-answer
returns-then-contains-clause-answer c =
    let order = c.args.elimination.now.order in
    let G = graph c.args.elimination.now.couplings in
    let position = c.min-position.result in
    let first = c.in-Some.ensures.first in (
      (λ e. (
        c.if-a-b.false,
        path-joined G order c.args.a c.args.b c.position.result c.position-2.result position c.requires.one c.requires.two (placed _ _ c.order-order.ensures _ _ c.position.ensures.value) (placed _ _ c.order-order.ensures _ _ c.position-2.ensures.value) c.min-position.ensures
            (search-found G (before (listed order) position) order.size c.args.a c.args.b c.loop-station.board.marks.now c.loop-station.invariant.0 c.in-Some.station (omega (arith, first.1)) first.2 (ap (λ (C : PairSet). graph C c.in-Some.station c.args.b) (sym c.couplings.ensures) ∙ sym c.if-contains.ensures)),
      )),
      λ h. refl,
    )

pub returns-clause-answer : goal.returns-clause-answer
returns-clause-answer c =
    let order = c.args.elimination.now.order in
    let G = graph c.args.elimination.now.couplings in
    let position = c.min-position.result in (
      (λ e. absurd (false≢true e)),
      λ h. absurd
          (search-over G (before (listed order) position) order.size c.args.a c.args.b c.loop-station.board.marks.now c.loop-station.invariant.0 c.requires.one c.args.elimination.now.below
          (λ k l. c.in_default.ensures.first k (omega arith) (omega arith))
          (joined-path G order c.args.a c.args.b c.position.result c.position-2.result position c.requires.one c.requires.two (placed _ _ c.order-order.ensures _ _ c.position.ensures.value) (placed _ _ c.order-order.ensures _ _ c.position-2.ensures.value) c.min-position.ensures h.1)),
    )
