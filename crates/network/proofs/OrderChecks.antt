-- A list without a fault is an order, an order has no fault, and it leaves no station out.
use Rattle.std.proofs.Common.{◌≡◌, ℕ, zero, suc, ◌<◌, false, cond, not, ◌&&◌, eqb, ltb, leb, ◌⊎◌, List, length, get_or, None, ◌∙◌, inl, inr, arith}
use Rattle.std.proofs.lemmas.Bool.{cases_eq, eqb-true, leb-true, ltb-true, eq-eqb, le-leb, lt-ltb, and_parts, and_from, not-true, not_from_false, cond-true}
use Rattle.std.proofs.lemmas.Bool.Decides.{nat_tests}
use Rattle.network.proofs.Faults.{cond-none, no-fault, each_none}
use Rattle.network.proofs.Marks.{unnamed, named-nowhere}
use Rattle.network.specs.Orders.{among, station_fault, order_fault}
use Rattle.network.specs.Refusals.{first_fault}
use Rattle.network.specs.SheetLaws.{OrderOf, OrderIs, OrderNamesAll}

station-says : (xs : List ℕ) (n k : ℕ) → station_fault xs n k ≡ None → (get_or xs k 0 < n) × (among xs k (get_or xs k 0) ≡ false)
unfolding station_fault
station-says xs n k h =
    let fine = cond-none (ltb (get_or xs k 0) n && not (among xs k (get_or xs k 0))) None 14 k h in
    let both = and_parts (ltb (get_or xs k 0) n) (not (among xs k (get_or xs k 0))) fine.0 in
    (ltb-true _ _ both.0, not-true _ both.1)

pub faultless-order : (xs : List ℕ) (n : ℕ) → order_fault xs n ≡ None → OrderOf xs n
faultless-order xs n h =
    let fine = cond-none (eqb (length xs) n && leb n 512) (first_fault (station_fault xs n) n) 13 (length xs) h in
    let both = and_parts (eqb (length xs) n) (leb n 512) fine.0 in
    let says : (k : ℕ) → k < n → (get_or xs k 0 < n) × (among xs k (get_or xs k 0) ≡ false) =
    λ k lt. station-says xs n k (each_none (station_fault xs n) n fine.1 k lt) in
    record {
      whole = eqb-true _ _ both.0;
      few = leb-true _ _ both.1;
      known = λ k lt. (says k lt).0;
      once = λ j k lt hk e. named-nowhere (λ i. get_or xs i 0) k (get_or xs k 0) (says k hk).1 j lt e;
    }

station-fine : (xs : List ℕ) (n : ℕ) → OrderOf xs n → (k : ℕ) → k < n → station_fault xs n k ≡ None
unfolding station_fault
station-fine xs n order k lt =
    cond-true _ _ _
    (and_from _ _ (lt-ltb _ _ (order.known k lt))
    (not_from_false _ (unnamed (λ i. get_or xs i 0) k (get_or xs k 0) (λ j less e. order.once j k less lt e))))

pub order-faultless : (xs : List ℕ) (n : ℕ) → OrderOf xs n → order_fault xs n ≡ None
order-faultless xs n order =
    cond-true _ _ _ (and_from _ _ (eq-eqb _ _ order.whole) (le-leb _ _ order.few))
    ∙ no-fault (station_fault xs n) n (station-fine xs n order)

pub order_is : OrderIs
order_is xs n = (faultless-order xs n, order-faultless xs n)

-- ---- no station is left out

-- of the n + 1 numbers up to n, the first n with the last one for n: they lie below n
abbrev moved : (ℕ → ℕ) → ℕ → ℕ → ℕ
moved f n k = cond (eqb (f k) n) (f n) (f k)

-- n different numbers below n are all the numbers below n
all_named : (f : ℕ → ℕ) (n : ℕ) → ((k : ℕ) → k < n → f k < n) → ((j k : ℕ) → j < k → k < n → f j ≡ f k → ⊥)
    → (v : ℕ) → v < n → (k : ℕ) × (k < n) × (f k ≡ v)
all_named f zero below apart v h = absurd (omega arith)
all_named f (suc n) below apart v h = go (cases_eq (f n) v) (cases_eq v n) (all_named (moved f n) n moved-below moved_apart)
  where
    moved-below : (k : ℕ) → k < n → moved f n k < n
    moved-below k lt =
        let b = below k (omega arith) in
        let l = below n (omega arith) in
        let d = apart k n lt (omega arith) in
        grind (arith, nat_tests)

    moved_apart : (j k : ℕ) → j < k → k < n → moved f n j ≡ moved f n k → ⊥
    moved_apart j k lt hk e =
        let d = apart j k lt (omega arith) in
        let dj = apart j n (omega arith) (omega arith) in
        let dk = apart k n hk (omega arith) in
        grind (arith, nat_tests)

    -- where the number v is that is not the last: where v was put, or the last one if v is n
    go : (f n ≡ v) ⊎ (f n ≡ v → ⊥) → (v ≡ n) ⊎ (v ≡ n → ⊥) → ((u : ℕ) → u < n → (k : ℕ) × (k < n) × (moved f n k ≡ u))
        → (k : ℕ) × (k < suc n) × (f k ≡ v)
    go (inl e) top rest = (n, omega arith, e)
    go (inr ne) (inl top) rest =
        let found = rest (f n) (omega (arith, below n (omega arith))) in
        let k = found.0 in
        let d = apart k n found.1 (omega arith) in
        let e : moved f n k ≡ f n = found.2 in
        (k, omega (arith, found.1), grind (arith, nat_tests))
    go (inr ne) (inr low) rest =
        let found = rest v (omega arith) in
        let k = found.0 in
        let e : moved f n k ≡ v = found.2 in
        (k, omega (arith, found.1), grind (arith, nat_tests))

pub order-names-all : OrderNamesAll
order-names-all xs n order = all_named (λ k. get_or xs k 0) n order.known order.once
