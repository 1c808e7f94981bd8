-- A sheet: what it says of a network and an order, and its bytes.
use Rattle.std.specs.Prelude.{◌≡◌, ℕ, zero, suc, ◌+◌, ◌-◌, ◌*◌, ◌/◌, ◌^◌, ◌<◌, ◌≤◌, min, max, Bool, true, false, cond, not, ◌&&◌, ◌||◌, List, [], ◌∷◌, ◌++◌, map, length, get_or, ◌==◌, ◌≢◌, nat_lt, slice_index, slice_index_or}
use Rattle.std.specs.List.{range_with_len}
use Rattle.network.specs.Bits.{bit_at}
use Rattle.network.specs.Net.{Net}

-- the number of stations; each coupling as its larger and its smaller station; an order of the stations
pub record Sheet : Type 0 where
  pub size : ℕ
  pub couplings : List (ℕ × ℕ)
  pub order : List ℕ

-- ---- the bytes of a sheet

-- the width of a station's field: the smallest w of 1 to 9 with n ≤ 2 ^ w, where n ≤ 512
unfoldable pub width_to : ℕ → ℕ → ℕ
width_to n zero = 1
width_to n (suc k) = cond (nat_lt (2 ^ suc k) n) (suc (suc k)) (width_to n k)

unfoldable pub width : ℕ → ℕ
width n = width_to n 8

-- a number in w bits, the highest first
unfoldable pub bits_of : ℕ → ℕ → List Bool
bits_of zero v = []
bits_of (suc w) v = bit_at v w ∷ bits_of w v

-- numbers in w bits each
unfoldable pub spread : ℕ → List ℕ → List Bool
spread w [] = []
spread w (v ∷ vs) = bits_of w v ++ spread w vs

-- pairs as one list of numbers
unfoldable pub flat : List (ℕ × ℕ) → List ℕ
flat [] = []
flat (p ∷ ps) = p.0 ∷ (p.1 ∷ flat ps)

-- the number that the w bits from p on write
unfoldable pub value_of : (ℕ → Bool) → ℕ → ℕ → ℕ
value_of f p zero = 0
value_of f p (suc w) = value_of f p w * 2 + cond (f (p + w)) 1 0

-- bits in bytes, with zero bits at the end of the last
unfoldable pub pack : List Bool → List ℕ
pack bits = map (λ j. value_of (λ i. get_or bits i false) (8 * j) 8) (range_with_len 0 ((length bits + 7) / 8))

-- the stations that a sheet names, in their order
abbrev pub named : Sheet → List ℕ
named s = flat s.couplings ++ s.order

-- kind, size, number of couplings, then the stations
unfoldable pub bits_in : Sheet → List Bool
bits_in s = bits_of 5 1 ++ (bits_of 10 s.size ++ (bits_of 17 (length s.couplings) ++ spread (width s.size) (named s)))

unfoldable pub encode : Sheet → List ℕ
encode s = pack (bits_in s)

-- ---- a sheet as a network with an order

-- the pair a b is one of the pairs
unfoldable pub has_pair : List (ℕ × ℕ) → ℕ → ℕ → Bool
has_pair [] a b = false
has_pair (p ∷ ps) a b = (p.0 == a && p.1 == b) || has_pair ps a b

-- two numbers are coupled if they are different stations, and the sheet has their pair
abbrev pub sheet_net : Sheet → Net
sheet_net s = record {
  size = s.size;
  coupled = λ a b. nat_lt a s.size && (nat_lt b s.size && (not (a == b) && has_pair s.couplings (max a b) (min a b)));
}

-- the couplings of a with the stations below b, rising
unfoldable pub row_to : (ℕ → ℕ → Bool) → ℕ → ℕ → List (ℕ × ℕ)
row_to coupled a zero = []
row_to coupled a (suc b) = row_to coupled a b ++ cond (coupled a b) ((a, b) ∷ []) []

-- the couplings whose larger station is below a, rising by larger, then smaller
unfoldable pub pairs_to : (ℕ → ℕ → Bool) → ℕ → List (ℕ × ℕ)
pairs_to coupled zero = []
pairs_to coupled (suc a) = pairs_to coupled a ++ row_to coupled a a

-- the sheet of a network and one of its orders
abbrev pub sheet_from : Net → List ℕ → Sheet
sheet_from net order = record { size = net.size; couplings = pairs_to net.coupled net.size; order = order }

-- ---- what a sheet may say

-- the pair a b comes before the pair c d
abbrev pub before : ℕ → ℕ → ℕ → ℕ → Bool
before a b c d = nat_lt a c || (a == c && nat_lt b d)

abbrev pub pair_at : Sheet → ℕ → ℕ × ℕ
pair_at s k = slice_index_or s.couplings k (0, 0)

-- what a sheet says is a network and one of its orders
pub record Well (s : Sheet) : Type 0 where
  pub some : 1 ≤ s.size
  pub few : s.size ≤ 512
  pub few_pairs : length s.couplings ≤ s.size * (s.size - 1) / 2
  pub inside : (k : ℕ) → k < length s.couplings → (pair_at s k).0 < s.size
  pub falling : (k : ℕ) → k < length s.couplings → (pair_at s k).1 < (pair_at s k).0
  pub rising : (k : ℕ) → suc k < length s.couplings
      → before (pair_at s k).0 (pair_at s k).1 (pair_at s (suc k)).0 (pair_at s (suc k)).1 ≡ true
  pub whole : length s.order ≡ s.size
  pub known : (k : ℕ) → k < s.size → slice_index s.order k < s.size
  pub once : (j k : ℕ) → j < k → k < s.size → slice_index s.order j ≢ slice_index s.order k

-- one station, which is its own order
abbrev pub lone_sheet : Sheet
lone_sheet = record { size = 1; couplings = []; order = 0 ∷ [] }
