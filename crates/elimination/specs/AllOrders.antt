-- All orders of a few stations, and tests over them that compute.
use Rattle.std.specs.Prelude.{◌≡◌, ℕ, zero, suc, Bool, not, ◌||◌, ◌⊎◌, List, [], ◌∷◌, ◌++◌, map}
use Rattle.std.specs.List.{list_all}
use Rattle.elimination.specs.Elimination.{fill}
use Rattle.elimination.specs.Graphs.{Graph}
use Rattle.elimination.specs.Orders.{up_to}

-- x put into the list at each place
abbrev pub inserts : ℕ → List ℕ → List (List ℕ)
inserts x [] = (x ∷ []) ∷ []
inserts x (y ∷ ys) = (x ∷ y ∷ ys) ∷ map (λ zs. y ∷ zs) (inserts x ys)

abbrev pub inserts_each : ℕ → List (List ℕ) → List (List ℕ)
inserts_each x [] = []
inserts_each x (ys ∷ yss) = inserts x ys ++ inserts_each x yss

-- every order of the stations below n
abbrev pub orders : ℕ → List (List ℕ)
orders zero = [] ∷ []
orders (suc n) = inserts_each n (orders n)

-- every pair of F of stations below n is one of G
abbrev pub within : ℕ → Graph → Graph → Bool
within n F G = list_all (λ a. list_all (λ b. not (F a b) || G a b) (up_to n)) (up_to n)

-- no order has a fill that is a proper part of the fill of xs: a fill that lies within it is all of it
abbrev pub minimal : ℕ → Graph → List ℕ → Bool
minimal n C xs = list_all (λ ys. not (within n (fill C ys) (fill C xs)) || within n (fill C xs) (fill C ys)) (orders n)

-- xs is one of the lists
abbrev pub Listed : List ℕ → List (List ℕ) → Type 0
Listed xs [] = ⊥
Listed xs (ys ∷ yss) = (xs ≡ ys) ⊎ Listed xs yss
