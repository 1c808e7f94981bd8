-- How the histories of a plan go on when an order is loaded or tightened, or a station is put last, in the forms that a call's goals take.
use Rattle.std.proofs.Common.{◌≡◌, ℕ, ◌<◌, ◌≤◌, Bool, cond, not, Option, is_some, is_err, Result, Ok, Err, List, [], ◌∷◌, ◌++◌, sym, ap, ◌∙◌, subst}
use Rattle.network.specs.declared.refusal.Refusal.{Refusal}
use Rattle.network.specs.Orders.{order_fault}
use Rattle.network.specs.Refusals.{Fault, told, unless}
use Rattle.network.proofs.Faults.{unless-err, unless-ok}
use Rattle.elimination.specs.declared.order.EliminationOrder.{EliminationOrder}
use Rattle.elimination.specs.Elimination.{Minimal, fill}
use Rattle.elimination.specs.Graphs.{Sub}
use Rattle.elimination.specs.Orders.{Order}
use Rattle.elimination.specs.View.{graph, listed, listing}
use Rattle.elimination.proofs.Listing.{order-of, order-sized}
use Rattle.plan_parts.specs.declared.plan.Plan.{Plan}
use Rattle.plan_parts.specs.PlanStates.{Asked, Extends, PlanHistory, PlanState, Seats, Tightens, one_refused, with_order}
use Rattle.plan_parts.specs.PlanStates.Asked.{load_call, seat_call, tighten_call}
use Rattle.plan_parts.specs.PlanStates.PlanHistory.{seated, seat_refused}
use Rattle.plan_parts.specs.PlanView.{view}
use Rattle.plan_parts.proofs.Histories.{loads, tightens}

-- the stations of an order
pub ordered : (o : EliminationOrder) → Order o.size (listed o)
ordered o = order-of o

module _ (p p' : Plan) (xs : List ℕ) (r : Result EliminationOrder Refusal) (k : listing r ≡ unless (order_fault xs p.elimination.order.size) xs) where
  -- a list that is an order was loaded
  pub load_on : (o : EliminationOrder) → r ≡ Ok o → view p' ≡ with_order (view p) (listed o) → Extends (load_call xs) (view p) (view p')
  load_on o q e =
      let t = unless-ok (order_fault xs p.elimination.order.size) xs (listed o) (sym (ap listing q) ∙ k) in
      loads (view p) (view p') xs p.elimination.order.few (e ∙ ap (with_order (view p)) t.1 ∙ sym (ap (λ (x : Option Fault). cond (not (is_some x)) (with_order (view p) xs) (one_refused (view p))) t.0))

  -- a list that is none was refused
  pub load_off : (f : Refusal) → r ≡ Err f → view p' ≡ cond (is_err r) (one_refused (view p)) (view p) → Extends (load_call xs) (view p) (view p')
  load_off f q e =
      let t = unless-err (order_fault xs p.elimination.order.size) xs (told f) (sym (ap listing q) ∙ k) in
      loads (view p) (view p') xs p.elimination.order.few (e ∙ ap (λ (x : Result EliminationOrder Refusal). cond (is_err x) (one_refused (view p)) (view p)) q ∙ sym (ap (λ (x : Option Fault). cond (not (is_some x)) (with_order (view p) xs) (one_refused (view p))) t))

module _ (p p' : Plan) (o : EliminationOrder) (e : view p' ≡ with_order (view p) (listed o)) (size : o.size ≡ p.elimination.order.size)
    (within : Sub (fill (graph p.elimination.couplings) (listed o)) (fill (graph p.elimination.couplings) (listed p.elimination.order)))
    (minimal : Minimal p.elimination.order.size (graph p.elimination.couplings) (listed o)) where
  -- the order that was put in place tightens the one before
  pub tight_order : Tightens (view p).net (view p).order (view p').order
  tight_order =
      subst (Tightens (view p).net (view p).order) (sym (ap (λ (s : PlanState). s.order) e)) (record { order = order-sized o p.elimination.order.size size; within = within; minimal = minimal })

  -- the order was tightened
  pub tighten_on : Extends tighten_call (view p) (view p')
  tighten_on = tightens (view p) (view p') tight_order (e ∙ ap (with_order (view p)) (sym (ap (λ (s : PlanState). s.order) e)))

module _ (calls : List Asked) (given : List ℕ) (tight : Bool) (s s' : PlanState) (h : PlanHistory calls given tight s) (station : ℕ) where
  -- a station was put last
  pub seat_on : station < s.net.size → Seats s.net station s.order s'.order → s' ≡ with_order s s'.order → PlanHistory (calls ++ (seat_call station ∷ [])) given tight s'
  seat_on known k e = rw e (seated h station known s'.order k)

  -- a number that is no station was refused
  pub seat_off : s.net.size ≤ station → s' ≡ one_refused s → PlanHistory (calls ++ (seat_call station ∷ [])) given tight s'
  seat_off unknown e = rw e (seat_refused h station unknown)
