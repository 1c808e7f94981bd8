-- Laws in the subject's words, above the definitions that compute.
use Rattle.std.specs.Prelude.{◌≡◌, ℕ, ◌^◌, ◌<◌, ◌≤◌, Bool, true, false, List, length, Some, None, Ok, Option, slice_index}
use Rattle.network.specs.Net.{Net, next_coupled}
use Rattle.network.specs.Sheets.{Sheet, Well, encode}
use Rattle.network.specs.Decode.{decode}

-- the first of the numbers from low up to, without, high that passes the test: none before it does; or none of them does
abbrev pub FirstIs : (ℕ → Bool) → ℕ → ℕ → Option ℕ → Type 0
FirstIs test low high (Some t) = (low ≤ t) × (t < high) × (test t ≡ true) × ((k : ℕ) → low ≤ k → k < t → test k ≡ false)
FirstIs test low high None = (k : ℕ) → low ≤ k → k < high → test k ≡ false

abbrev pub NextIs : Net → ℕ → ℕ → Option ℕ → Type 0
NextIs net station from = FirstIs (net.coupled station) from net.size

-- the next coupled station is the smallest one from there on
abbrev pub NextIsSmallest : Type 0
NextIsSmallest = (net : Net) (station from : ℕ) → NextIs net station from (next_coupled net station from)

-- ---- sheets

-- numbers of eight bits
abbrev pub Bytes : List ℕ → Type 0
Bytes bs = (j : ℕ) → j < length bs → slice_index bs j < 2 ^ 8

-- a sheet that is written reads as itself
abbrev pub WrittenReads : Type 0
WrittenReads = (s : Sheet) → Well s → decode (encode s) ≡ Ok s

-- bytes that are read are written as the same bytes
abbrev pub ReadWrites : Type 0
ReadWrites = (bs : List ℕ) (s : Sheet) → Bytes bs → decode bs ≡ Ok s → encode s ≡ bs

-- what is read is a network and one of its orders
abbrev pub ReadWell : Type 0
ReadWell = (bs : List ℕ) (s : Sheet) → decode bs ≡ Ok s → Well s
