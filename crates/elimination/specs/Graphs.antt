-- Graphs over stations: which two are neighbours, and which neighbourhoods are complete.
use Rattle.std.specs.Prelude.{◌≡◌, ℕ, ◌<◌, Bool, true, false, not, ◌&&◌, ◌||◌, List, [], ◌∷◌, ◌==◌}
use Rattle.std.specs.List.{list_all}
use Rattle.elimination.specs.Orders.{up_to}

-- whether two stations are neighbours
abbrev pub Graph : Type 0
Graph = ℕ → ℕ → Bool

-- a pair is unordered
abbrev pub Symmetric : Graph → Type 0
Symmetric G = (a b : ℕ) → G a b ≡ G b a

-- nothing is paired with itself
abbrev pub Irreflexive : Graph → Type 0
Irreflexive G = (a : ℕ) → G a a ≡ false

-- only what is below n is paired
abbrev pub Below : Graph → ℕ → Type 0
Below G n = (a b : ℕ) → G a b ≡ true → (a < n) × (b < n)

-- a graph over the stations below n: a pair is unordered, and of two different stations
pub record Simple (n : ℕ) (G : Graph) : Type 0 where
  pub symmetric : (a b : ℕ) → G a b ≡ G b a
  pub irreflexive : (a : ℕ) → G a a ≡ false
  pub below : (a b : ℕ) → G a b ≡ true → (a < n) × (b < n)

-- every pair of G is one of H
abbrev pub Sub : Graph → Graph → Type 0
Sub G H = (a b : ℕ) → G a b ≡ true → H a b ≡ true

-- G lies in H, and some pair of H is not one of G
abbrev pub ProperPart : Graph → Graph → Type 0
ProperPart G H = Sub G H × ((a b : ℕ) × (H a b ≡ true) × (G a b ≡ false))

-- any two different members that pass the test are neighbours
abbrev pub complete : Graph → (ℕ → Bool) → List ℕ → Bool
complete G p xs = list_all (λ a. list_all (λ b. not (p a && (p b && not (a == b))) || G a b) xs) xs

-- the neighbours of x in the list are pairwise neighbours
abbrev pub simplicial : Graph → ℕ → List ℕ → Bool
simplicial G x xs = complete G (G x) xs

-- each member is simplicial among those that come after it
abbrev pub closed : Graph → List ℕ → Bool
closed G [] = true
closed G (x ∷ xs) = simplicial G x xs && closed G xs

-- the common neighbours of u and v, among the stations below n, are pairwise neighbours
unfoldable pub spare : ℕ → Graph → ℕ → ℕ → Bool
spare n G u v = complete G (λ a. G u a && G v a) (up_to n)

-- G without the pair u v
abbrev pub without : Graph → ℕ → ℕ → Graph
without G u v a b = G a b && not ((a == u && b == v) || (a == v && b == u))

-- G with the pair u v
abbrev pub including : Graph → ℕ → ℕ → Graph
including G u v a b = G a b || ((a == u && b == v) || (a == v && b == u))

-- G without the pairs at v
abbrev pub apart : Graph → ℕ → Graph
apart G v a b = G a b && (not (a == v) && not (b == v))

-- the pairs of either
abbrev pub union : Graph → Graph → Graph
union G H a b = G a b || H a b

-- the pairs of G at v
abbrev pub pairs_at : Graph → ℕ → Graph
pairs_at G v a b = G a b && (a == v || b == v)

-- every two neighbours of v
abbrev pub around : Graph → ℕ → Graph
around G v a b = G v a && (G v b && not (a == b))
