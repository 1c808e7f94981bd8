-- A plan as its user sees it, the calls that are made on it, and the histories that lead to it.
use Rattle.std.specs.Prelude.{◌≡◌, ℕ, ◌+◌, ◌<◌, ◌≤◌, min, Bool, true, false, cond, not, List, [], ◌∷◌, ◌++◌, is_some, Some}
use Rattle.network.specs.Net.{Net, Lawful}
use Rattle.network.specs.Orders.{order_fault}
use Rattle.elimination.specs.Graphs.{Sub}
use Rattle.elimination.specs.Orders.{Order, last_of, up_to}
use Rattle.elimination.specs.Elimination.{Minimal, fill}

-- a network, an order of its stations, and how many calls were refused
pub record PlanState : Type 0 where
  pub net : Net
  pub order : List ℕ
  pub refused : ℕ

-- the plan of a network that was just opened
abbrev pub opening : Net → PlanState
opening net = record { net = net; order = up_to net.size; refused = 0 }

-- the same plan with another order
abbrev pub with_order : PlanState → List ℕ → PlanState
with_order s xs = record { net = s.net; order = xs; refused = s.refused }

-- the same plan with one refusal more; their number stops at 65,535
abbrev pub one_refused : PlanState → PlanState
one_refused s = record { net = s.net; order = s.order; refused = min (s.refused + 1) 65535 }

-- the check of orders finds no fault in the list
abbrev pub is_order : ℕ → List ℕ → Bool
is_order n xs = not (is_some (order_fault xs n))

-- the plan after a list was handed in as its order
abbrev pub after_load : PlanState → List ℕ → PlanState
after_load s xs = cond (is_order s.net.size xs) (with_order s xs) (one_refused s)

-- ys is an order with no fill outside that of xs, and no order has a fill that is a proper part of its fill
pub record Tightens (net : Net) (xs ys : List ℕ) : Type 0 where
  pub order : Order net.size ys
  pub within : Sub (fill net.coupled ys) (fill net.coupled xs)
  pub minimal : Minimal net.size net.coupled ys

-- ys is an order with no fill outside that of xs, and the station is its last
pub record Seats (net : Net) (station : ℕ) (xs ys : List ℕ) : Type 0 where
  pub order : Order net.size ys
  pub within : Sub (fill net.coupled ys) (fill net.coupled xs)
  pub last : last_of ys ≡ Some station

-- ---- calls

-- what can be asked of a plan; nothing of it changes
pub data Question : Type 0 where
  position_of_station : ℕ → Question
  station_at_position : ℕ → Question
  parent_of : ℕ → Question
  pair_filled : ℕ → ℕ → Question
  count_of : ℕ → Question
  total_fill : Question
  refused_number : Question
  whole_order : Question
  joined_through : ℕ → ℕ → Question

-- what is called on a plan that is open
pub data Asked : Type 0 where
  load_call : List ℕ → Asked
  tighten_call : Asked
  seat_call : ℕ → Asked
  freeze_call : Asked
  question : Question → Asked

-- ---- histories

-- the calls since a plan was opened, oldest first; the order last given; whether tighten was called since; and the plan then
pub data PlanHistory : List Asked → List ℕ → Bool → PlanState → Type 0 where
  -- opening gives the rising order
  opened : (net : Net) → Lawful net → PlanHistory [] (up_to net.size) false (opening net)
  -- a list that is an order is taken, and is the order last given from then on
  loaded : {calls : List Asked} {given : List ℕ} {tight : Bool} {s : PlanState} → PlanHistory calls given tight s
      → (xs : List ℕ) → Order s.net.size xs → PlanHistory (calls ++ (load_call xs ∷ [])) xs false (with_order s xs)
  -- a list that is none is refused, and gives nothing
  load_refused : {calls : List Asked} {given : List ℕ} {tight : Bool} {s : PlanState} → PlanHistory calls given tight s
      → (xs : List ℕ) → (Order s.net.size xs → ⊥) → PlanHistory (calls ++ (load_call xs ∷ [])) given tight (one_refused s)
  tightened : {calls : List Asked} {given : List ℕ} {tight : Bool} {s : PlanState} → PlanHistory calls given tight s
      → (ys : List ℕ) → Tightens s.net s.order ys → PlanHistory (calls ++ (tighten_call ∷ [])) given true (with_order s ys)
  seated : {calls : List Asked} {given : List ℕ} {tight : Bool} {s : PlanState} → PlanHistory calls given tight s
      → (station : ℕ) → station < s.net.size → (ys : List ℕ) → Seats s.net station s.order ys
      → PlanHistory (calls ++ (seat_call station ∷ [])) given tight (with_order s ys)
  -- a number that is no station is refused
  seat_refused : {calls : List Asked} {given : List ℕ} {tight : Bool} {s : PlanState} → PlanHistory calls given tight s
      → (station : ℕ) → s.net.size ≤ station → PlanHistory (calls ++ (seat_call station ∷ [])) given tight (one_refused s)
  frozen : {calls : List Asked} {given : List ℕ} {tight : Bool} {s : PlanState} → PlanHistory calls given tight s
      → PlanHistory (calls ++ (freeze_call ∷ [])) given tight s
  -- a question that is answered, and one that is refused
  asked : {calls : List Asked} {given : List ℕ} {tight : Bool} {s : PlanState} → PlanHistory calls given tight s
      → (q : Question) → PlanHistory (calls ++ (question q ∷ [])) given tight s

-- the order last given, after one more call on a plan of n stations
abbrev pub given_after : ℕ → Asked → List ℕ → List ℕ
given_after n (load_call xs) given = cond (is_order n xs) xs given
given_after n tighten_call given = given
given_after n (seat_call station) given = given
given_after n freeze_call given = given
given_after n (question q) given = given

-- whether tighten was called since an order was given, after one more call
abbrev pub tight_after : ℕ → Asked → Bool → Bool
tight_after n (load_call xs) tight = cond (is_order n xs) false tight
tight_after n tighten_call tight = true
tight_after n (seat_call station) tight = tight
tight_after n freeze_call tight = tight
tight_after n (question q) tight = tight

-- a call turned one plan into the other: the network stays, and every history of the one goes on to a history of the other
pub record Extends (call : Asked) (before after : PlanState) : Type 0 where
  pub net : after.net ≡ before.net
  pub history : (calls : List Asked) (given : List ℕ) (tight : Bool) → PlanHistory calls given tight before
      → PlanHistory (calls ++ (call ∷ [])) (given_after before.net.size call given) (tight_after before.net.size call tight) after

-- a question was asked of a plan, and left it as it was
abbrev pub Asks : Question → PlanState → Type 0
Asks q s = Extends (question q) s s

-- the order last given, and whether tighten was called since, after a list of calls, oldest first
abbrev pub given_from : ℕ → List ℕ → List Asked → List ℕ
given_from n given [] = given
given_from n given (call ∷ calls) = given_from n (given_after n call given) calls

abbrev pub tight_from : ℕ → Bool → List Asked → Bool
tight_from n tight [] = tight
tight_from n tight (call ∷ calls) = tight_from n (tight_after n call tight) calls

-- the order last given to a plan of n stations by the calls since it was opened, and whether tighten was called since
abbrev pub given_by : ℕ → List Asked → List ℕ
given_by n calls = given_from n (up_to n) calls

abbrev pub tight_by : ℕ → List Asked → Bool
tight_by n calls = tight_from n false calls

-- a plan that was opened on the network, and on which exactly these calls were made
abbrev pub Replayed : Net → List Asked → PlanState → Type 0
Replayed net calls s = PlanHistory calls (given_by net.size calls) (tight_by net.size calls) s × (s.net ≡ net)
