-- What every order keeps: its stations name each one once, and the positions are their inverse.
use Rattle.std.specs.Prelude.{◌≡◌, ℕ, ◌<◌, false, List, take, is_some, slice_index}
use Rattle.network.specs.Orders.{order_fault}

-- the check of orders finds no fault
abbrev pub Named : ℕ → List ℕ → Type 0
Named size stations = is_some (order_fault (take size stations) size) ≡ false

-- the position of the station at k is k
abbrev pub Found : ℕ → List ℕ → List ℕ → Type 0
Found size stations positions = (k : ℕ) → k < size → slice_index positions (slice_index stations k) ≡ k

-- the station at the position of s is s
abbrev pub Placed : ℕ → List ℕ → List ℕ → Type 0
Placed size stations positions = (s : ℕ) → s < size → (slice_index positions s < size) × (slice_index stations (slice_index positions s) ≡ s)
