-- Laws that join sheets with the networks and orders they speak of, in the subject's words.
use Rattle.std.specs.Prelude.{◌≡◌, ℕ, ◌^◌, ◌<◌, ◌≤◌, List, length, None, Ok, ◌≢◌, slice_index}
use Rattle.network.specs.Net.{Net, Lawful}
use Rattle.network.specs.Orders.{order_fault}
use Rattle.network.specs.Sheets.{Sheet, Well, width, has_pair, sheet_net, sheet_from}
use Rattle.network.specs.Decode.{decode}
use Rattle.network.specs.Encode.{bytes_of}
use Rattle.network.specs.Laws.{Bytes}
use Rattle.network.specs.Lists.{list_size, named_in, list_net, lists_fault}

-- ---- orders

-- an order of a network's stations: as many numbers as stations, each of them a station, none of them twice
pub record OrderOf (order : List ℕ) (size : ℕ) : Type 0 where
  pub whole : length order ≡ size
  pub few : size ≤ 512
  pub known : (k : ℕ) → k < size → slice_index order k < size
  pub once : (j k : ℕ) → j < k → k < size → slice_index order j ≢ slice_index order k

-- a list has no fault as an order exactly if it is one
abbrev pub OrderIs : Type 0
OrderIs = (order : List ℕ) (size : ℕ)
    → (order_fault order size ≡ None → OrderOf order size) × (OrderOf order size → order_fault order size ≡ None)

-- an order leaves no station out
abbrev pub OrderNamesAll : Type 0
OrderNamesAll = (order : List ℕ) (size : ℕ) → OrderOf order size
    → (station : ℕ) → station < size → (k : ℕ) × (k < size) × (slice_index order k ≡ station)

-- ---- the width of a station's field

-- the width is at least one bit and enough for every station, and no smaller one is
abbrev pub WidthIsSmallest : Type 0
WidthIsSmallest = (n : ℕ) → n ≤ 512
    → (1 ≤ width n) × (n ≤ 2 ^ width n) × ((v : ℕ) → 1 ≤ v → n ≤ 2 ^ v → width n ≤ v)

-- ---- from a network to its sheet and back

-- the sheet of a network and one of its orders is one that may be read
abbrev pub NetworkSheetWell : Type 0
NetworkSheetWell = (net : Net) (order : List ℕ) → Lawful net → order_fault order net.size ≡ None → Well (sheet_from net order)

-- a network and one of its orders, written and read again, are what they were
abbrev pub NetworkReturns : Type 0
NetworkReturns = (net : Net) (order : List ℕ) → Lawful net → order_fault order net.size ≡ None
    → (decode (bytes_of net order) ≡ Ok (sheet_from net order)) × (sheet_net (sheet_from net order) ≡ net)

-- no two networks, and no two orders of one, have the same bytes
abbrev pub BytesTellApart : Type 0
BytesTellApart = (net net' : Net) (order order' : List ℕ)
    → Lawful net → order_fault order net.size ≡ None → Lawful net' → order_fault order' net'.size ≡ None
    → bytes_of net order ≡ bytes_of net' order' → (net ≡ net') × (order ≡ order')

-- ---- from a sheet to its network and back

-- the network of a sheet that was read is lawful
abbrev pub ReadLawful : Type 0
ReadLawful = (bs : List ℕ) (s : Sheet) → decode bs ≡ Ok s → Lawful (sheet_net s)

-- the order of a sheet that was read is an order of its network
abbrev pub ReadOrdered : Type 0
ReadOrdered = (bs : List ℕ) (s : Sheet) → decode bs ≡ Ok s → order_fault s.order s.size ≡ None

-- the network and the order of a sheet that was read have that sheet
abbrev pub ReadSameSheet : Type 0
ReadSameSheet = (bs : List ℕ) (s : Sheet) → decode bs ≡ Ok s → sheet_from (sheet_net s) s.order ≡ s

-- a network and an order that were read are written as the bytes they were read from
abbrev pub ReadSameBytes : Type 0
ReadSameBytes = (bs : List ℕ) (s : Sheet) → Bytes bs → decode bs ≡ Ok s → bytes_of (sheet_net s) s.order ≡ bs

-- ---- from a sheet and from neighbour lists

-- a sheet and neighbour lists that were read and have the same couplings mean the same network
abbrev pub SameCouplingsSameMeaning : Type 0
SameCouplingsSameMeaning = (bs starts names : List ℕ) (s : Sheet) → decode bs ≡ Ok s → lists_fault starts names ≡ None → s.size ≡ list_size starts
    → ((larger smaller : ℕ) → larger < s.size → smaller < larger → has_pair s.couplings larger smaller ≡ named_in starts names larger smaller)
    → sheet_net s ≡ list_net starts names
