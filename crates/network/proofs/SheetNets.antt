-- Networks and orders written as sheets and read again, and sheets read and written again.
use Rattle.std.proofs.Common.{◌≡◌, ℕ, ◌<◌, min, max, Bool, true, List, length, get_or, None, Ok, Result, sym, ap, ◌∙◌, ⊎_elim, arith}
use mathlib.Core.Path.{fun_ext}
use native.Mathlib.Nat.{max_comm, min_comm}
use Rattle.std.proofs.lemmas.Bool.{cases_lt, cases_order}
use Rattle.std.proofs.lemmas.Bool.Decides.{nat_tests}
use Rattle.network.proofs.OrderChecks.{faultless-order, order-faultless}
use Rattle.network.proofs.SheetPairs.{has-pairs, has-pair-at, has-each, rises-pairs, rises_next, next-rises, same-pairs, pairs-short}
use Rattle.network.proofs.Trips.{written-reads, read-writes}
use Rattle.network.proofs.Wells.{read-well}
use Rattle.network.specs.Decode.{decode}
use Rattle.network.specs.Net.{Net, Lawful}
use Rattle.network.specs.Orders.{order_fault}
use Rattle.network.specs.Refusals.{Fault}
use Rattle.network.specs.SheetLaws.{NetworkSheetWell, NetworkReturns, BytesTellApart, ReadLawful, ReadOrdered, ReadSameSheet, ReadSameBytes}
use Rattle.network.specs.Sheets.{Sheet, Well, has_pair, pairs_to, sheet_net, sheet_from, encode}

-- ---- from a network

pub network-sheet-well : NetworkSheetWell
network-sheet-well net order lawful fine =
    let C = net.coupled in
    let n = net.size in
    let is = faultless-order order n fine in
    let ps = pairs_to C n in
    let says : (k : ℕ) → k < length ps → ((get_or ps k (0, 0)).0 < n) × ((get_or ps k (0, 0)).1 < (get_or ps k (0, 0)).0) =
    λ k lt. has-says C n _ _ (has-pair-at ps k lt) in
    record {
      some = lawful.some;
      few = lawful.few;
      few_pairs = pairs-short C n;
      inside = λ k lt. (says k lt).0;
      falling = λ k lt. (says k lt).1;
      rising = rises_next ps (rises-pairs C n);
      whole = is.whole;
      known = is.known;
      once = is.once;
    }
  where
    has-says : (C : ℕ → ℕ → Bool) (n a b : ℕ) → has_pair (pairs_to C n) a b ≡ true → (a < n) × (b < a)
    has-says C n a b h = let e = has-pairs C n a b in (grind (arith, nat_tests), grind (arith, nat_tests))

same-coupled : (net : Net) → Lawful net → (order : List ℕ) (a b : ℕ) → (sheet_net (sheet_from net order)).coupled a b ≡ net.coupled a b
same-coupled net lawful order a b =
    let C = net.coupled in
    let e = has-pairs C net.size (max a b) (min a b) in
    let ab = lawful.within a b in
    let ba = lawful.within b a in
    let turned = lawful.symmetric a b in
    ⊎_elim
    (λ same. let top : max a b ≡ a = omega arith in let low : min a b ≡ a = omega arith in
    let own = lawful.irreflexive a in grind (arith, nat_tests))
    (⊎_elim
    (λ less. let top : max a b ≡ b = omega arith in let low : min a b ≡ a = omega arith in grind (arith, nat_tests))
    (λ more. let top : max a b ≡ a = omega arith in let low : min a b ≡ b = omega arith in grind (arith, nat_tests)))
    (cases_order a b)

pub same-net : (net : Net) → Lawful net → (order : List ℕ) → sheet_net (sheet_from net order) ≡ net
same-net net lawful order =
    let make : (ℕ → ℕ → Bool) → Net = λ C. record { size = net.size; coupled = C } in
    ap make (fun_ext (λ a. fun_ext (λ b. same-coupled net lawful order a b)))

pub network-returns : NetworkReturns
network-returns net order lawful fine =
    (written-reads (sheet_from net order) (network-sheet-well net order lawful fine), same-net net lawful order)

ok_same : (s t : Sheet) → ◌≡◌ {A = Result Sheet Fault} (Ok s) (Ok t) → s ≡ t
ok_same s t h = cc

pub bytes-tell-apart : BytesTellApart
bytes-tell-apart net net' order order' lawful fine lawful' fine' same =
    let one = network-returns net order lawful fine in
    let two = network-returns net' order' lawful' fine' in
    let sheets : sheet_from net order ≡ sheet_from net' order' = ok_same _ _ (sym one.0 ∙ ap decode same ∙ two.0) in
    (sym one.1 ∙ ap sheet_net sheets ∙ two.1, ap (λ (s : Sheet). s.order) sheets)

-- ---- from a sheet

well-lawful : (s : Sheet) → Well s → Lawful (sheet_net s)
well-lawful s well = record {
  some = well.some;
  few = well.few;
  symmetric = λ a b. grind (arith, nat_tests, max_comm a b, min_comm a b);
  irreflexive = λ a. grind (arith, nat_tests);
  within = λ a b h. grind (arith, nat_tests);
}

well-ordered : (s : Sheet) → Well s → order_fault s.order s.size ≡ None
well-ordered s well = order-faultless s.order s.size (record { whole = well.whole; few = well.few; known = well.known; once = well.once })

same-has : (s : Sheet) → Well s → (a b : ℕ) → has_pair (pairs_to (sheet_net s).coupled s.size) a b ≡ has_pair s.couplings a b
same-has s well a b =
    let e = has-pairs (sheet_net s).coupled s.size a b in
    let ps = s.couplings in
    let inside : has_pair ps a b ≡ true → a < s.size = has-each (λ x y. x < s.size) ps well.inside a b in
    let falling : has_pair ps a b ≡ true → b < a = has-each (λ x y. y < x) ps well.falling a b in
    ⊎_elim
    (λ falls. let top : max a b ≡ a = omega arith in let low : min a b ≡ b = omega arith in grind (arith, nat_tests))
    (λ rises. grind (arith, nat_tests))
    (cases_lt b a)

pub same-sheet : (s : Sheet) → Well s → sheet_from (sheet_net s) s.order ≡ s
same-sheet s well =
    let make : List (ℕ × ℕ) → Sheet = λ ps. record { size = s.size; couplings = ps; order = s.order } in
    ap make (same-pairs _ _ (rises-pairs (sheet_net s).coupled s.size) (next-rises s.couplings well.rising) (same-has s well))

pub read-lawful : ReadLawful
read-lawful bs s read = well-lawful s (read-well bs s read)

pub read-ordered : ReadOrdered
read-ordered bs s read = well-ordered s (read-well bs s read)

pub read-same-sheet : ReadSameSheet
read-same-sheet bs s read = same-sheet s (read-well bs s read)

pub read-same-bytes : ReadSameBytes
read-same-bytes bs s bytes read = ap encode (read-same-sheet bs s read) ∙ read-writes bs s bytes read
