-- The places of a reserve, by positions in its order: column by column, in each column its own position first and
-- then the later positions that form a filled pair with it, by rising position.
use Rattle.std.specs.Prelude.{◌≡◌, ℕ, zero, suc, ◌+◌, ◌<◌, min, max, Bool, true, cond, ◌&&◌, ◌||◌, ◌≢◌, Some, None, Option, ◌==◌, nat_lt}
use Rattle.elimination.specs.Graphs.{Graph}

-- the column j has a place for the position i
unfoldable pub in_column : Graph → ℕ → ℕ → Bool
in_column F j i = i == j || (nat_lt j i && F i j)

-- how many positions below i have a place in the column j
unfoldable pub rank : Graph → ℕ → ℕ → ℕ
rank F j zero = 0
rank F j (suc i) = rank F j i + cond (in_column F j i) 1 0

-- how many places the columns before j have
unfoldable pub start : Graph → ℕ → ℕ → ℕ
start F n zero = 0
start F n (suc j) = start F n j + rank F j n

-- how many places there are
unfoldable pub places : Graph → ℕ → ℕ
places F n = start F n n

-- the number of the place in row i and column j, if there is one; no row lies above its column
unfoldable pub cell : Graph → ℕ → ℕ → ℕ → Option ℕ
cell F n i j = cond (nat_lt i n && in_column F j i) (Some (start F n j + rank F j i)) None

-- the place of two positions, whichever comes first
unfoldable pub place_for : Graph → ℕ → ℕ → ℕ → Option ℕ
place_for F n i j = cell F n (max i j) (min i j)

-- how many of the positions below i are later than j and form a filled pair with it
unfoldable pub later : Graph → ℕ → ℕ → ℕ
later F j zero = 0
later F j (suc i) = later F j i + cond (nat_lt j i && F i j) 1 0

-- how many filled pairs have their earlier position below m
unfoldable pub pairs : Graph → ℕ → ℕ → ℕ
pairs F n zero = 0
pairs F n (suc m) = pairs F n m + later F m n

-- two different positions below n, both later than k, that form filled pairs with it
pub record Corner (F : Graph) (n : ℕ) : Type 0 where
  pub i : ℕ
  pub j : ℕ
  pub k : ℕ
  pub row : i < n
  pub column : j < n
  pub apart : i ≢ j
  pub after_row : k < i
  pub after_column : k < j
  pub left : F i k ≡ true
  pub right : F j k ≡ true

-- two later positions with a place in one column have one for their own pair
abbrev pub Closed : Graph → ℕ → Type 0
Closed F n = (c : Corner F n) → F c.i c.j ≡ true

-- what a layout is: each place has a number below their count, no two have the same, and none is left out
pub record Numbered (F : Graph) (n : ℕ) : Type 0 where
  pub below : (i j p : ℕ) → cell F n i j ≡ Some p → p < places F n
  pub once : (i j a b p : ℕ) → cell F n i j ≡ Some p → cell F n a b ≡ Some p → (i ≡ a) × (j ≡ b)
  pub all : (p : ℕ) → p < places F n → (i j : ℕ) × (cell F n i j ≡ Some p)
  pub count : places F n ≡ n + pairs F n n

-- the places of every reserve are numbered from 0 without gap and without repeat
abbrev pub NoGap : Type 0
NoGap = (F : Graph) (n : ℕ) → Numbered F n
