-- Dropping spare pairs: what a graph keeps while pairs go, and when none is left to go.
use Rattle.std.specs.Prelude.{◌≡◌, ℕ, ◌/◌, ◌%◌, ◌<◌, Bool, true, false, List, ◌≢◌, slice_index_or}
use Rattle.network.specs.Bits.{count_to}
use Rattle.elimination.specs.Graphs.{Graph, Simple, Sub, spare}
use Rattle.elimination.specs.Theorems.{Perfect}

-- a graph over the stations below n that contains the couplings, and that some order closes
pub record Ready (n : ℕ) (C G : Graph) : Type 0 where
  pub simple : Simple n G
  pub perfect : Perfect n G
  pub holds : Sub C G

-- some pair of G is not one of H
abbrev pub Lost : Graph → Graph → Type 0
Lost G H = (a b : ℕ) × (G a b ≡ true) × (H a b ≡ false) × (a < 512) × (b < 512)

-- no pair of G outside C is spare
abbrev pub Tight : ℕ → Graph → Graph → Type 0
Tight n C G = (u v : ℕ) → G u v ≡ true → C u v ≡ false → spare n G u v ≢ true

-- whether the mark of a is set
abbrev pub marked : List Bool → ℕ → Bool
marked marks a = slice_index_or marks a false

-- no pair outside C is spare whose two rows are both unmarked
abbrev pub Looked : Graph → Graph → List Bool → Type 0
Looked C G again = (a b : ℕ) → G a b ≡ true → C a b ≡ false → marked again a ≡ false → marked again b ≡ false → spare 512 G a b ≢ true

-- the same, the pairs of u left out
abbrev pub LookedApart : Graph → Graph → List Bool → ℕ → Type 0
LookedApart C G again u = (a b : ℕ) → a ≢ u → b ≢ u
    → G a b ≡ true → C a b ≡ false → marked again a ≡ false → marked again b ≡ false → spare 512 G a b ≢ true

-- how many pairs, each counted both ways
unfoldable pub weight : Graph → ℕ
weight G = count_to (λ k. G (k / 512) (k % 512)) 262144
