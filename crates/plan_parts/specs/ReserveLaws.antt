-- What is proved of reserves: statements that contracts cite, over every lawful network and every order of it.
use Rattle.std.specs.Prelude.{◌≡◌, ℕ, ◌<◌, true, ◌||◌, ◌⊎◌, is_some, ◌==◌}
use Rattle.elimination.specs.Graphs.{Graph}
use Rattle.elimination.specs.Elimination.{filled}
use Rattle.elimination.specs.Theorems.{ForEveryOrder}
use Rattle.plan_parts.specs.Layout.{Closed}
use Rattle.plan_parts.specs.Reserves.{by_position, place_of_stations}

-- two stations have a place exactly if they are the same one or form a filled pair
abbrev pub PlacesForFilledPairs : Type 0
PlacesForFilledPairs = ForEveryOrder (λ net xs. (a b : ℕ) → a < net.size → b < net.size
    → is_some (place_of_stations (by_position (filled net.coupled xs) xs) net.size xs a b) ≡ (a == b || filled net.coupled xs a b))

-- two later stations with a place in one column have one for their own pair
abbrev pub FilledPlacesAreClosed : Type 0
FilledPlacesAreClosed = ForEveryOrder (λ net xs. Closed (by_position (filled net.coupled xs) xs) net.size)

-- each pair of F is one of C, or an earlier position forms pairs of F with both
abbrev pub Grounded : Graph → ℕ → Graph → Type 0
Grounded F n C = (i j : ℕ) → i < n → j < i → F i j ≡ true → (C i j ≡ true) ⊎ ((k : ℕ) × (k < j) × (F i k ≡ true) × (F j k ≡ true))

-- every filled pair is a coupling, or an earlier station forms filled pairs with both
abbrev pub FilledPairsAreGrounded : Type 0
FilledPairsAreGrounded = ForEveryOrder (λ net xs. Grounded (by_position (filled net.coupled xs) xs) net.size (by_position net.coupled xs))
