-- Orders: lists that name each of n stations once; and what comes before and after a station.
use Rattle.std.specs.Prelude.{◌≡◌, ℕ, zero, suc, ◌<◌, Bool, false, cond, ◌||◌, ◌⊎◌, List, [], ◌∷◌, ◌++◌, Some, None, Option, ◌==◌}

-- a is a member of the list
abbrev pub In : ℕ → List ℕ → Type 0
In a [] = ⊥
In a (x ∷ xs) = (a ≡ x) ⊎ In a xs

-- no member stands twice
abbrev pub Distinct : List ℕ → Type 0
Distinct [] = Unit {0}
Distinct (x ∷ xs) = (In x xs → ⊥) × Distinct xs

-- the list names each station below n once
pub record Order (n : ℕ) (xs : List ℕ) : Type 0 where
  pub once : Distinct xs
  pub all : (a : ℕ) → a < n → In a xs
  pub only : (a : ℕ) → In a xs → a < n

-- the stations below n, rising
abbrev pub up_to : ℕ → List ℕ
up_to zero = []
up_to (suc n) = up_to n ++ (n ∷ [])

abbrev pub member : ℕ → List ℕ → Bool
member a [] = false
member a (x ∷ xs) = a == x || member a xs

-- the stations that come after s
abbrev pub later : List ℕ → ℕ → List ℕ
later [] s = []
later (x ∷ xs) s = cond (x == s) xs (later xs s)

-- m comes before a
abbrev pub earlier : List ℕ → ℕ → ℕ → Bool
earlier xs m a = member a (later xs m)

-- the last member
abbrev pub last_of : List ℕ → Option ℕ
last_of [] = None
last_of (x ∷ []) = Some x
last_of (x ∷ y ∷ ys) = last_of (y ∷ ys)

-- the position of s
abbrev pub position_of : List ℕ → ℕ → ℕ
position_of [] s = 0
position_of (x ∷ xs) s = cond (x == s) 0 (suc (position_of xs s))
