-- The words of a set of pairs: 512 rows of eight words, a bit for each two stations.
use Rattle.std.specs.Prelude.{◌≡◌, ℕ, ◌+◌, ◌-◌, ◌*◌, ◌/◌, ◌%◌, ◌<◌, ◌≤◌, ◌≢◌, Bool, true, false, not, ◌&&◌, ◌||◌, List, Option, ◌==◌, filter, nat_lt, slice_index}
use Rattle.std.specs.List.{list_all, range_with_len}
use Rattle.network.specs.Bits.{bit_at, count_to}
use Rattle.network.specs.Net.{first_from}
use Rattle.elimination.specs.Graphs.{Graph}
use Rattle.elimination.specs.Orders.{up_to}

-- whether b is in the row a: the bit b % 64 of the word a * 8 + b / 64
unfoldable pub has : List ℕ → ℕ → ℕ → Bool
has ws a b = bit_at (slice_index ws (a * 8 + b / 64)) (b % 64)

-- which b are in the row a, for stations below 512
unfoldable pub rows : List ℕ → Graph
rows ws a b = nat_lt a 512 && (nat_lt b 512 && has ws a b)

-- whether b is in a row of eight words, for stations below 512
unfoldable pub in_row : List ℕ → ℕ → Bool
in_row row b = nat_lt b 512 && bit_at (slice_index row (b / 64)) (b % 64)

-- no station not below `from` in the word k of a row is in the row
abbrev pub WordNone : List ℕ → ℕ → ℕ → Type 0
WordNone row from k = (x : ℕ) → from ≤ x → 64 * k ≤ x → x < 64 * (k + 1) → in_row row x ≡ false

-- x is the first station not below `from` in the word k of a row that is in the row
abbrev pub WordFirst : List ℕ → ℕ → ℕ → ℕ → Type 0
WordFirst row from k x = (from ≤ x) × (64 * k ≤ x) × (x < 64 * (k + 1)) × (in_row row x ≡ true) × ((y : ℕ) → from ≤ y → 64 * k ≤ y → y < x → in_row row y ≡ false)

-- the rows go both ways
abbrev pub Mirrored : List ℕ → Type 0
Mirrored ws = (a b : ℕ) → rows ws a b ≡ rows ws b a

-- G with b in the row a
abbrev pub placed : Graph → ℕ → ℕ → Graph
placed G a b x y = G x y || (x == a && y == b)

-- G with b not in the row a
abbrev pub struck : Graph → ℕ → ℕ → Graph
struck G a b x y = G x y && not (x == a && y == b)

-- G with the row v in the row a
abbrev pub row_taken : Graph → ℕ → ℕ → Graph
row_taken G a v x y = G x y || (x == a && G v y)

-- whether x is in the row a, not below low, and below high
abbrev pub between : Graph → ℕ → ℕ → ℕ → ℕ → Bool
between G a low high x = G a x && (nat_lt x high && not (nat_lt x low))

-- how many stations of the word k are in the row a, not below low, and below high
abbrev pub word_count : Graph → ℕ → ℕ → ℕ → ℕ → ℕ
word_count G a low high k = count_to (λ j. between G a low high (64 * k + j)) 64

-- the first station not below `from` that is in the row a
abbrev pub next_of : Graph → ℕ → ℕ → Option ℕ
next_of G a from = first_from (G a) from (512 - from)

-- the stations below 512 and not below `from` that pass the test, rising
unfoldable pub members_from : (ℕ → Bool) → ℕ → List ℕ
members_from p from = filter p (range_with_len from (512 - from))

-- the members of the row a, rising
abbrev pub members_of : Graph → ℕ → List ℕ
members_of G a = members_from (G a) 0

-- every common member below n of the rows a and b, but c itself, lies in the row c
unfoldable pub has_common_within : ℕ → Graph → ℕ → ℕ → ℕ → Bool
has_common_within n G a b c = list_all (λ x. not (G a x && (G b x && not (x == c))) || G c x) (up_to n)

-- every common member of the rows a and b in the word k, but c itself, lies in the row c
abbrev pub WordWithin : List ℕ → ℕ → ℕ → ℕ → ℕ → Type 0
WordWithin ws a b c k = (j : ℕ) → j < 64 → 64 * k + j ≢ c → has ws a (64 * k + j) ≡ true → has ws b (64 * k + j) ≡ true → has ws c (64 * k + j) ≡ true
