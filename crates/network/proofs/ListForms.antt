-- Well formed lists have no fault, and what that says of their couplings.
use Rattle.std.proofs.Common.{◌≡◌, ℕ, zero, suc, ◌+◌, ◌-◌, ◌<◌, ◌≤◌, true, cond, ◌||◌, eqb, ltb, leb, List, length, get_or, None, Option, refl, ap, ◌∙◌, ⊎_elim, arith}
use Rattle.std.proofs.lemmas.Bool.{cases_lt, cases_eq, cond-true, cond-false, and_from, or_left, or_right, eq-eqb, ne_eqb, lt-ltb, le-leb, not_from_false}
use Rattle.network.specs.Refusals.{Fault}
use Rattle.network.specs.Lists.{InList, list_size, is_fitting_start, start_fault, is_fitting_name, name_fault, one_sided_fault, row_fault, rows_fault, lists_fault}
use Rattle.network.specs.ListLaws.{WellFormed, FaultlessListsAreWellFormed, CoupledStationsAreNamed, well-formed, at_named, coupled-named, named-coupled}
use Rattle.network.proofs.ListFaults.{walk-all, lists_named}

rows_all : (starts : List ℕ) (found : ℕ → ℕ → Option Fault) → ((s k : ℕ) → InList starts s k → found s k ≡ None) → rows_fault starts found ≡ None
unfolding row_fault
rows_all starts found none = walk-all (row_fault starts found) (list_size starts) (λ s h. walk-all (λ j. found s (get_or starts s 0 + j)) _ (λ j l. none s (get_or starts s 0 + j) (h, omega arith, omega arith)))

start_fits : (starts names : List ℕ) → WellFormed starts names → (i : ℕ) → i < length starts → is_fitting_start starts (length names) i ≡ true
start_fits starts names w i h = and_from _ _ (onward i h) (ends i h)
  where
    onward : (i : ℕ) → i < length starts → cond (eqb i 0) (eqb (get_or starts i 0) 0) (leb (get_or starts (i - 1) 0) (get_or starts i 0)) ≡ true
    onward zero h = eq-eqb _ _ w.first
    onward (suc s) h =
        let e : suc s - 1 ≡ s = omega arith in
        let p : s + 1 ≡ suc s = omega arith in
        let up : get_or starts s 0 ≤ get_or starts (suc s) 0 = rw p at (w.onward s (omega arith)) in
        cond-false _ _ _ (ne_eqb (suc s) 0 (λ q. omega arith)) ∙ rw e (le-leb _ _ up)

    ends : (i : ℕ) → i < length starts → (ltb (i + 1) (length starts) || eqb (get_or starts i 0) (length names)) ≡ true
    ends i h =
        ⊎_elim (λ lt. or_left _ _ (lt-ltb _ _ lt))
        (λ ge. let e : i ≡ list_size starts = omega arith in
        or_right _ _ (eq-eqb _ _ (ap (λ (x : ℕ). get_or starts x 0) e ∙ w.last)))
        (cases_lt (i + 1) (length starts))

name-fits : (starts names : List ℕ) → WellFormed starts names → (s k : ℕ) → InList starts s k → is_fitting_name names (list_size starts) (get_or starts s 0) s k ≡ true
name-fits starts names w s k i =
    and_from _ _ (and_from _ _ (lt-ltb _ _ (w.known s k i)) (not_from_false _ (ne_eqb _ _ (w.other s k i))))
    (⊎_elim (λ first. or_left _ _ (eq-eqb _ _ first))
    (λ later. or_right _ _ (lt-ltb _ _ (w.rising s (k - 1) k (i.0, omega (arith, i.1), omega (arith, i.1, i.2)) i (omega (arith, i.1)))))
    (cases_eq k (get_or starts s 0)))

pub faultless : (starts names : List ℕ) → WellFormed starts names → lists_fault starts names ≡ None
faultless starts names w =
    lists_named starts names (cond-true _ _ _ (and_from _ _ (le-leb _ _ w.some) (le-leb _ _ w.few)))
    (walk-all (start_fault starts (length names)) (length starts) (λ i h. cond-true _ _ _ (start_fits starts names w i h)))
    (rows_all starts (name_fault starts names) (λ s k i. cond-true _ _ _ (name-fits starts names w s k i)))
    ∙ rows_all starts (one_sided_fault starts names)
    (λ s k i. cond-true _ _ _ (at_named starts names (get_or names k 0) s (w.both_sides s (get_or names k 0) (k, i, refl))))

pub faultless-well-formed : FaultlessListsAreWellFormed
faultless-well-formed starts names = (well-formed starts names, faultless starts names)

pub coupled-are-named : CoupledStationsAreNamed
coupled-are-named starts names w a b = (coupled-named starts names a b, named-coupled starts names w a b)
