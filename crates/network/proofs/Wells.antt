-- What is read is a network and one of its orders.
use Rattle.std.proofs.Common.{◌≡◌, ℕ, suc, ◌+◌, ◌-◌, ◌*◌, ◌/◌, ◌<◌, ◌≤◌, false, cond, not, ◌&&◌, eqb, ltb, List, length, get_or, Some, None, sym, refl, ap, ◌∙◌, subst, ap₂, ⊎_elim, arith}
use Rattle.std.proofs.lemmas.List.FromFn.{length-map-range_with_len, get_or-map-range_with_len}
use Rattle.std.proofs.lemmas.Bool.{eqb-true, ltb-true, and_parts, or_cases, not-true}
use Rattle.std.proofs.lemmas.Bool.Decides.{nat_tests}
use Rattle.network.proofs.Faults.{cond-none, or_else-none, each_none, unless-ok}
use Rattle.network.proofs.Marks.{named-nowhere}
use Rattle.network.proofs.Searches.{pair-says, pair_is, count-is, header-says}
use Rattle.network.specs.Decode.{place_for, value_at, header_fault, pair_fault, placed_fault, end_fault, body_fault, fault, sheet_of, couplings_of, order_of, decode}
use Rattle.network.specs.Fields.{field, is_in}
use Rattle.network.specs.Laws.{ReadWell}
use Rattle.network.specs.Orders.{named_before}
use Rattle.network.specs.Refusals.{or_else, first_fault}
use Rattle.network.specs.Sheets.{Well, pair_at, width, before}

few-pairs : (bs : List ℕ) → header_fault bs ≡ None → field bs 15 17 ≤ field bs 5 10 * (field bs 5 10 - 1) / 2
unfolding header_fault
few-pairs bs h = grind (arith, nat_tests)

order-says : (bs : List ℕ) (n w s k : ℕ) → placed_fault bs n w s k ≡ None → (value_at bs w (s + k) < n) × (named_before (λ i. value_at bs w (s + i)) k (value_at bs w (s + k)) ≡ false)
unfolding placed_fault
order-says bs n w s k h =
    let h1 = cond-none (is_in bs (place_for w (s + k)) w) (cond (ltb (value_at bs w (s + k)) n && not (named_before (λ i. value_at bs w (s + i)) k (value_at bs w (s + k)))) None (Some (record { number = 7; place = place_for w (s + k) }))) 1 (place_for w (s + k)) h in
    let h2 = cond-none (ltb (value_at bs w (s + k)) n && not (named_before (λ i. value_at bs w (s + i)) k (value_at bs w (s + k)))) None 7 (place_for w (s + k)) h1.1 in
    let both = and_parts (ltb (value_at bs w (s + k)) n) (not (named_before (λ i. value_at bs w (s + i)) k (value_at bs w (s + k)))) h2.0 in
    (ltb-true _ _ both.0, not-true _ both.1)

station-is : (bs : List ℕ) (n m k : ℕ) → k < n → get_or (sheet_of bs n m).order k 0 ≡ value_at bs (width n) (2 * m + k)
unfolding couplings_of order_of
station-is bs n m k h = get_or-map-range_with_len (λ i. value_at bs (width n) (2 * m + i)) 0 n k k 0 h (omega arith)

order-length : (bs : List ℕ) (n m : ℕ) → length (sheet_of bs n m).order ≡ n
unfolding couplings_of order_of
order-length bs n m = length-map-range_with_len _ 0 n

pub size_is : (bs : List ℕ) (n m : ℕ) → (sheet_of bs n m).size ≡ n
unfolding couplings_of order_of
size_is bs n m = refl

well-in : (bs : List ℕ) → fault bs ≡ None → Well (sheet_of bs (field bs 5 10) (field bs 15 17))
unfolding fault body_fault
well-in bs h =
    let n = field bs 5 10 in
    let m = field bs 15 17 in
    let w = width n in
    let s = sheet_of bs n m in
    let sz : s.size ≡ n = size_is bs n m in
    let cs : length s.couplings ≡ m = count-is bs n m in
    let h0 = or_else-none (header_fault bs) (body_fault bs n m) h in
    let h3 = or_else-none (first_fault (pair_fault bs n w) m) (or_else (first_fault (placed_fault bs n w (2 * m)) n) (end_fault bs (place_for w (2 * m + n)))) h0.1 in
    let h4 = or_else-none (first_fault (placed_fault bs n w (2 * m)) n) (end_fault bs (place_for w (2 * m + n))) h3.1 in
    let head = header-says bs h0.0 in
    let pair : (k : ℕ) → k < m → pair_fault bs n w k ≡ None = each_none (pair_fault bs n w) m h3.0 in
    let station : (k : ℕ) → k < n → placed_fault bs n w (2 * m) k ≡ None = each_none (placed_fault bs n w (2 * m)) n h4.0 in
    let p0 : (k : ℕ) → k < m → (pair_at s k).0 ≡ value_at bs w (2 * k) = λ k lt. ap (λ (p : ℕ × ℕ). p.0) (pair_is bs n m k lt) in
    let p1 : (k : ℕ) → k < m → (pair_at s k).1 ≡ value_at bs w (2 * k + 1) = λ k lt. ap (λ (p : ℕ × ℕ). p.1) (pair_is bs n m k lt) in
    record {
      some = omega (arith, head.0, sz);
      few = omega (arith, head.1, sz);
      few_pairs = omega (arith, few-pairs bs h0.0, cs, ap (λ (x : ℕ). x * (x - 1) / 2) sz);
      inside = λ k lt. let hk : k < m = omega arith in omega (arith, p0 k hk, (pair-says bs n w k (pair k hk)).0, sz);
      falling = λ k lt. let hk : k < m = omega arith in omega (arith, p0 k hk, p1 k hk, (pair-says bs n w k (pair k hk)).1);
      rising = λ k lt.
          let hj : k < m = omega arith in
          let hk : suc k < m = omega arith in
          let ea : 2 * suc k - 2 ≡ 2 * k = omega arith in
          let eb : 2 * suc k - 1 ≡ 2 * k + 1 = omega arith in
          ap₂ (λ (x y : ℕ). before x y (pair_at s (suc k)).0 (pair_at s (suc k)).1) (p0 k hj) (p1 k hj)
          ∙ ap₂ (λ (x y : ℕ). before (value_at bs w (2 * k)) (value_at bs w (2 * k + 1)) x y) (p0 (suc k) hk) (p1 (suc k) hk)
          ∙ ⊎_elim (λ z. let q : suc k ≡ 0 = eqb-true (suc k) 0 z in absurd (omega arith)) (λ b. rw (ea, eb) at b)
          (or_cases (eqb (suc k) 0) _ (pair-says bs n w (suc k) (pair (suc k) hk)).2);
      whole = order-length bs n m ∙ sym sz;
      known = λ k lt. let hk : k < n = omega arith in omega (arith, station-is bs n m k hk, (order-says bs n w (2 * m) k (station k hk)).0, sz);
      once = λ j k lt hk e.
          let kn : k < n = omega arith in
          let jn : j < n = omega arith in
          named-nowhere (λ i. value_at bs w (2 * m + i)) k (value_at bs w (2 * m + k)) (order-says bs n w (2 * m) k (station k kn)).1 j lt
          (sym (station-is bs n m j jn) ∙ e ∙ station-is bs n m k kn);
    }

pub read-well : ReadWell
unfolding decode
read-well bs s h =
    let both = unless-ok (fault bs) (sheet_of bs (field bs 5 10) (field bs 15 17)) s (sym h) in
    subst Well (sym both.1) (well-in bs both.0)
