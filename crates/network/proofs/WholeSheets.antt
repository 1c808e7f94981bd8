-- The whole sheet of a network and an order: its bits, its length, and what a writing of it finds.
use Rattle.std.proofs.Common.{◌≡◌, ℕ, ◌+◌, ◌*◌, ◌/◌, ◌^◌, ◌<◌, ◌≤◌, cond, ltb, List, ◌++◌, length, Some, None, sym, ap, ◌∙◌, ap₂, append_assoc, mul-le-mul_right, arith}
use Rattle.std.specs.Int.{div_ceil}
use Rattle.std.proofs.lemmas.List.{length-append}
use Rattle.std.proofs.lemmas.Bool.{lt-ltb, le-ltb, cond-true, cond-false}
use Rattle.network.proofs.Counts.{pairs-few}
use Rattle.network.proofs.Faults.{or_else-some, or_else-past}
use Rattle.network.proofs.Found.{length-bits_in}
use Rattle.network.proofs.OrderChecks.{faultless-order}
use Rattle.network.proofs.Places.{width_few}
use Rattle.network.proofs.Standing.{length-pack}
use Rattle.network.proofs.Trips.{length-named}
use Rattle.network.proofs.Writes.{spread-append, length-head_bits}
use Rattle.network.specs.Decode.{place_for}
use Rattle.network.specs.Encode.{bytes_of, write_fault}
use Rattle.network.specs.Net.{Net, Lawful}
use Rattle.network.specs.Orders.{order_fault}
use Rattle.network.specs.Refusals.{Fault, refuse}
use Rattle.network.specs.Sheets.{bits_of, spread, flat, named, bits_in, encode, width, pairs_to, sheet_from}
use Rattle.network.specs.Writing.{head_bits, pair_bits}

-- ---- its bits

-- how many couplings the network has
abbrev pub count_of : Net → ℕ
count_of net = length (pairs_to net.coupled net.size)

-- header, couplings and order are all of it
its-bits : (net : Net) (order : List ℕ)
    → head_bits net.size (count_of net) ++ (pair_bits (width net.size) (pairs_to net.coupled net.size) ++ spread (width net.size) order) ≡ bits_in (sheet_from net order)
unfolding head_bits pair_bits bits_in
its-bits net order =
    let w = width net.size in
    let kind = bits_of 5 1 in
    let size = bits_of 10 net.size in
    let count = bits_of 17 (count_of net) in
    let rest = spread w (flat (pairs_to net.coupled net.size)) ++ spread w order in
    append_assoc kind (size ++ count) rest
    ∙ ap (λ l. kind ++ l) (append_assoc size count rest ∙ ap (λ l. size ++ (count ++ l)) (sym (spread-append w (flat (pairs_to net.coupled net.size)) order)))

pub sheet-bits : (net : Net) (order : List ℕ) (n m w : ℕ) → n ≡ net.size → m ≡ count_of net → w ≡ width n
    → head_bits n m ++ (pair_bits w (pairs_to net.coupled net.size) ++ spread w order) ≡ bits_in (sheet_from net order)
sheet-bits net order n m w en em ew =
    ap₂ (λ (x y : ℕ). head_bits x y ++ (pair_bits w (pairs_to net.coupled net.size) ++ spread w order)) en em
    ∙ ap (λ (x : ℕ). head_bits net.size (count_of net) ++ (pair_bits x (pairs_to net.coupled net.size) ++ spread x order)) (ew ∙ ap width en)
    ∙ its-bits net order

-- ---- its length

pub sheet-length : (net : Net) (order : List ℕ) → length (bytes_of net order) ≡ (length (bits_in (sheet_from net order)) + 7) / 8
unfolding encode
sheet-length net order = length-pack (bits_in (sheet_from net order))

-- the length by the place p behind the last station, of a list that is an order
pub div_ceil_is : (p : ℕ) {r : ℕ} → r ≡ div_ceil p 8 → r ≡ (p + 7) / 8
div_ceil_is p e = omega (arith, e)

pub need-is : (net : Net) (order : List ℕ) (n m w p : ℕ) → n ≡ net.size → order_fault order net.size ≡ None → m ≡ count_of net → w ≡ width n → p ≡ place_for w (2 * m + n)
    → (p + 7) / 8 ≡ length (bytes_of net order)
need-is net order n m w p en ordered em ew ep =
    let s = sheet_from net order in
    let e : 2 * m + n ≡ length (named s) = omega (arith, length-named s, (faultless-order order net.size ordered).whole) in
    ap (λ (x : ℕ). (x + 7) / 8) (ep ∙ ap₂ place_for (ew ∙ ap width en) e ∙ sym (length-bits_in s)) ∙ sym (sheet-length net order)

sheet-short : (net : Net) (order : List ℕ) → Lawful net → length order ≡ net.size → length (bytes_of net order) < 2 ^ 32
unfolding place_for
sheet-short net order law lo =
    let s = sheet_from net order in
    let k = length (named s) in
    let b : width net.size * k ≤ 9 * k = mul-le-mul_right k (width_few net.size).1 in
    omega (arith, sheet-length net order, length-bits_in s, length-named s, pairs-few net.coupled net.size law.few, law.few)

-- bytes of the sheet's length have room for all its parts
pub sheet-room : (net : Net) (order : List ℕ) (n m w l : ℕ) → Lawful net → order_fault order net.size ≡ None → n ≡ net.size → m ≡ count_of net → w ≡ width n → l ≡ length (bytes_of net order)
    → (32 + length (pair_bits w (pairs_to net.coupled net.size)) + length (spread w order) ≤ 8 * l) × (l < 2 ^ 32)
sheet-room net order n m w l law ordered en em ew el =
    let pairs = pair_bits w (pairs_to net.coupled net.size) in (
      omega (arith, sheet-length net order, ap length (sheet-bits net order n m w en em ew), length-append (head_bits n m) (pairs ++ spread w order), length-append pairs (spread w order), length-head_bits n m),
      omega (arith, sheet-short net order law (faultless-order order net.size ordered).whole),
    )

-- ---- what a writing finds

pub write-unordered : (net : Net) (order : List ℕ) (l n : ℕ) (e : Fault) → n ≡ net.size → order_fault order n ≡ Some e → write_fault net order l ≡ Some e
unfolding write_fault
write-unordered net order l n e en h = or_else-some _ _ e (ap (order_fault order) (sym en) ∙ h)

pub write-short : (net : Net) (order : List ℕ) (l need : ℕ) → order_fault order net.size ≡ None → need ≡ length (bytes_of net order) → l < need → write_fault net order l ≡ refuse 16 need
unfolding write_fault
write-short net order l need h e lt =
    or_else-past (order_fault order net.size) _ h ∙ ap (λ (x : ℕ). cond (ltb l x) (refuse 16 x) None) (sym e) ∙ cond-true _ _ _ (lt-ltb l need lt)

pub write-fine : (net : Net) (order : List ℕ) (l need : ℕ) → order_fault order net.size ≡ None → need ≡ length (bytes_of net order) → need ≤ l → write_fault net order l ≡ None
unfolding write_fault
write-fine net order l need h e le =
    or_else-past (order_fault order net.size) _ h ∙ ap (λ (x : ℕ). cond (ltb l x) (refuse 16 x) None) (sym e) ∙ cond-false _ _ _ (le-ltb l need le)
