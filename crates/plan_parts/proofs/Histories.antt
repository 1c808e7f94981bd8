-- Every history leads to a plan whose fill is kept; and how a history goes on with one call more.
use Rattle.std.proofs.Common.{◌≡◌, ℕ, ◌≤◌, Bool, true, false, cond, not, List, [], ◌∷◌, ◌++◌, is_some, Some, None, Option, sym, refl, ap, ◌∙◌, subst}
use mathlib.Core.Path.{fun_ext}
use Rattle.std.proofs.lemmas.Bool.{false≢true}
use Rattle.network.specs.Orders.{order_fault}
use Rattle.network.specs.Refusals.{Fault}
use Rattle.network.proofs.Faults.{some-none}
use Rattle.elimination.specs.Elimination.{Minimal, fill}
use Rattle.elimination.specs.Graphs.{Graph, Sub}
use Rattle.elimination.specs.Orders.{Order}
use Rattle.elimination.proofs.Listing.{fault-order, order-fault, up_to-order}
use Rattle.plan_parts.specs.PlanLaws.{FillKept}
use Rattle.plan_parts.specs.PlanStates.{Asked, Extends, PlanHistory, PlanState, Question, Tightens, after_load, one_refused, with_order}
use Rattle.plan_parts.specs.PlanStates.Asked.{load_call, tighten_call, freeze_call, question}
use Rattle.plan_parts.specs.PlanStates.PlanHistory.{opened, loaded, load_refused, tightened, seated, seat_refused, frozen, asked}

-- a fill within a minimal one is the same
pub minimal-least : (n : ℕ) (C : Graph) (xs ys : List ℕ) → Minimal n C xs → Order n ys → Sub (fill C ys) (fill C xs) → fill C ys ≡ fill C xs
minimal-least n C xs ys minimal o within = fun_ext (λ a. fun_ext (λ b. at a b (fill C ys a b) refl (fill C xs a b) refl))
  where
    at : (a b : ℕ) (p : Bool) → fill C ys a b ≡ p → (q : Bool) → fill C xs a b ≡ q → fill C ys a b ≡ fill C xs a b
    at a b true e q f = e ∙ sym (within a b e)
    at a b false e false f = e ∙ sym f
    at a b false e true f = absurd (minimal ys o (within, (a, b, f, e)))

pub fill-kept : (calls : List Asked) (given : List ℕ) (tight : Bool) (s : PlanState) → PlanHistory calls given tight s → FillKept s.net given tight s.order
fill-kept calls given tight s (opened net l) =
    let o = up_to-order net.size in
    record { order = o; given_order = o; within = λ a b h. h; least = λ e. absurd (false≢true e) }
fill-kept calls given tight s (loaded h xs o) = record { order = o; given_order = o; within = λ a b h. h; least = λ e. absurd (false≢true e) }
fill-kept calls given tight s (load_refused {calls = calls₀} {given = given₀} {tight = tight₀} {s = s₀} h xs o) =
    let i = fill-kept calls₀ given₀ tight₀ s₀ h in
    record { order = i.order; given_order = i.given_order; within = i.within; least = i.least }
fill-kept calls given tight s (tightened {calls = calls₀} {given = given₀} {tight = tight₀} {s = s₀} h ys k) =
    let i = fill-kept calls₀ given₀ tight₀ s₀ h in
    record {
      order = k.order;
      given_order = i.given_order;
      within = λ a b f. i.within a b (k.within a b f);
      least = λ _ zs o w. minimal-least s₀.net.size s₀.net.coupled ys zs k.minimal o w;
    }
fill-kept calls given tight s (seated {calls = calls₀} {given = given₀} {tight = tight₀} {s = s₀} h station known ys k) =
    let i = fill-kept calls₀ given₀ tight₀ s₀ h in
    record {
      order = k.order;
      given_order = i.given_order;
      within = λ a b f. i.within a b (k.within a b f);
      least = λ e zs o w. i.least e zs o (λ a b f. k.within a b (w a b f)) ∙ sym (i.least e ys k.order k.within);
    }
fill-kept calls given tight s (seat_refused {calls = calls₀} {given = given₀} {tight = tight₀} {s = s₀} h station known) =
    let i = fill-kept calls₀ given₀ tight₀ s₀ h in
    record { order = i.order; given_order = i.given_order; within = i.within; least = i.least }
fill-kept calls given tight s (frozen {calls = calls₀} {given = given₀} {tight = tight₀} {s = s₀} h) =
    let i = fill-kept calls₀ given₀ tight₀ s₀ h in
    record { order = i.order; given_order = i.given_order; within = i.within; least = i.least }
fill-kept calls given tight s (asked {calls = calls₀} {given = given₀} {tight = tight₀} {s = s₀} h q) =
    let i = fill-kept calls₀ given₀ tight₀ s₀ h in
    record { order = i.order; given_order = i.given_order; within = i.within; least = i.least }

-- ---- one call more

-- a question leaves the plan as it is
pub asks : (s : PlanState) (q : Question) → Extends (question q) s s
asks s q = record { net = refl; history = λ calls given tight h. asked h q }

-- freezing leaves the plan as it is
pub freezes : (s : PlanState) → Extends freeze_call s s
freezes s = record { net = refl; history = λ calls given tight h. frozen h }

module _ (s : PlanState) (xs : List ℕ) where
  load-taken : order_fault xs s.net.size ≡ None → Extends (load_call xs) s (with_order s xs)
  load-taken f = record {
    net = refl;
    history = λ calls given tight h.
        let P : Bool → Type 0 = λ b. PlanHistory (calls ++ (load_call xs ∷ [])) (cond b xs given) (cond b false tight) (with_order s xs) in
        subst P (sym (ap (λ (r : Option Fault). not (is_some r)) f)) (loaded h xs (fault-order xs s.net.size f));
  }

  load-turned : (fault : Fault) → s.net.size ≤ 512 → order_fault xs s.net.size ≡ Some fault → Extends (load_call xs) s (one_refused s)
  load-turned fault few f = record {
    net = refl;
    history = λ calls given tight h.
        let P : Bool → Type 0 = λ b. PlanHistory (calls ++ (load_call xs ∷ [])) (cond b xs given) (cond b false tight) (one_refused s) in
        subst P (sym (ap (λ (r : Option Fault). not (is_some r)) f)) (load_refused h xs (λ k. some-none (sym f ∙ order-fault xs s.net.size few k)));
  }

  by-fault : s.net.size ≤ 512 → (o : Option Fault) → order_fault xs s.net.size ≡ o → Extends (load_call xs) s (cond (not (is_some o)) (with_order s xs) (one_refused s))
  by-fault few None f = load-taken f
  by-fault few (Some fault) f = load-turned fault few f

-- a list was loaded, or refused
pub loads : (s s' : PlanState) (xs : List ℕ) → s.net.size ≤ 512 → s' ≡ after_load s xs → Extends (load_call xs) s s'
loads s s' xs few e = subst (Extends (load_call xs) s) (sym e) (by-fault s xs few (order_fault xs s.net.size) refl)

pub tightens : (s s' : PlanState) → Tightens s.net s.order s'.order → s' ≡ with_order s s'.order → Extends tighten_call s s'
tightens s s' k e = subst (Extends tighten_call s) (sym e) (record { net = refl; history = λ calls given tight h. tightened h s'.order k })
