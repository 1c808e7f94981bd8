-- The full square, and a pivot in it.
use Rattle.std.specs.Prelude.{ℕ, Bool, false, cond, not, ◌&&◌, Some, None, Option, ◌==◌, nat_lt}
use Rattle.run_parts.specs.Kinds.{Kind}

-- what is held in each row i and column j, of which only i ≥ j are places
abbrev pub Square : Type 0 → Type 0
Square E = ℕ → ℕ → Option E

abbrev pub empty : {E : Type 0} → Square E
empty i j = None

-- row i and column j alone
abbrev pub single : ℕ → ℕ → ℕ → ℕ → Bool
single i j a b = a == i && b == j

-- the square with an entry put at row i and column j
abbrev pub with_entry : {E : Type 0} → Square E → ℕ → ℕ → E → Square E
with_entry sq i j e a b = cond (single i j a b) (Some e) (sq a b)

-- an empty place takes first, a held one more
abbrev pub taken : {E : Type 0} → Kind E → Option E → E → E → E → E
taken K None left pivot right = K.first left pivot right
taken K (Some old) left pivot right = K.more old left pivot right

-- what a place becomes by what it, left, pivot and right hold: nothing changes unless all three are held
abbrev pub met : {E : Type 0} → Kind E → Option E → Option E → Option E → Option E → Option E
met K old None pivot right = old
met K old (Some l) None right = old
met K old (Some l) (Some p) None = old
met K old (Some l) (Some p) (Some r) = Some (taken K old l p r)

-- pivot k, made only at the places that D chooses: left is (i, k), pivot (k, k), right (j, k)
unfoldable pub part : {E : Type 0} → Kind E → ℕ → (ℕ → ℕ → Bool) → Square E → Square E
part K k D sq i j = cond (D i j) (met K (sq i j) (sq i k) (sq k k) (sq j k)) (sq i j)

-- the places i ≥ j > k
abbrev pub beyond : ℕ → ℕ → ℕ → Bool
beyond k i j = nat_lt k j && not (nat_lt i j)

-- pivot k, at all places i ≥ j > k
abbrev pub pivot : {E : Type 0} → Kind E → ℕ → Square E → Square E
pivot K k sq = part K k (beyond k) sq

-- whether pivot k is made, by what (k, k) holds; otherwise it is refused
abbrev pub pivotal : {E : Type 0} → Kind E → Option E → Bool
pivotal K None = false
pivotal K (Some p) = K.usable p
