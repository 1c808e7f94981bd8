-- What holds of every plan, over every lawful network and every history of calls.
use Rattle.std.specs.Prelude.{◌≡◌, ℕ, Bool, true, List}
use Rattle.network.specs.Net.{Net}
use Rattle.elimination.specs.Graphs.{Sub}
use Rattle.elimination.specs.Orders.{Order}
use Rattle.elimination.specs.Elimination.{fill}
use Rattle.plan_parts.specs.PlanStates.{Asked, PlanHistory, PlanState}

-- xs and the order last given are orders; each fill pair of xs is one of the order last given; and if tighten was called
-- since, every order of the network whose fill lies within that of xs has the same fill
pub record FillKept (net : Net) (given : List ℕ) (tight : Bool) (xs : List ℕ) : Type 0 where
  pub order : Order net.size xs
  pub given_order : Order net.size given
  pub within : Sub (fill net.coupled xs) (fill net.coupled given)
  pub least : tight ≡ true → (ys : List ℕ) → Order net.size ys → Sub (fill net.coupled ys) (fill net.coupled xs) → fill net.coupled ys ≡ fill net.coupled xs

-- after every history, the plan's fill lies within the fill of the order last given, and is the least within itself once tightened
abbrev pub FillWithinGivenAndLeastOnceTightened : Type 0
FillWithinGivenAndLeastOnceTightened = (calls : List Asked) (given : List ℕ) (tight : Bool) (s : PlanState) → PlanHistory calls given tight s → FillKept s.net given tight s.order
