-- The lists lie within the names, and a search by halves in one of them finds what it names.
use Rattle.std.proofs.Common.{◌≡◌, ℕ, zero, suc, ◌+◌, ◌-◌, ◌<◌, ◌≤◌, List, length, get_or, take, drop, is_ok, None, Ok, Err, Result, sym, ap, ◌∙◌, ⊎_elim, arith, MatchResult}
use Rattle.std.specs.List.Sorted.{IsBinarySearchResult}
use Rattle.std.proofs.lemmas.List.{get_or-take, get_or-drop, length-take-le, length-drop}
use Rattle.std.proofs.lemmas.List.Sorted.{searched}
use Rattle.std.proofs.lemmas.Bool.{cases_lt, cases_Bool}
use Rattle.network.specs.Refusals.{first_fault}
use Rattle.network.specs.Lists.{list_size, among_names, start_fault, name_fault, rows_fault}
use Rattle.network.specs.ListLaws.{start_none, starts-onward, starts-last, name-none, name-fits, rises-on, among-at, at-among}
use Rattle.std.specs.Ordering.{nat_cmp}

-- from each to the next not below is never below
climbs : (starts : List ℕ) (i d : ℕ) → ((s : ℕ) → i ≤ s → s < i + d → get_or starts s 0 ≤ get_or starts (s + 1) 0) → get_or starts i 0 ≤ get_or starts (i + d) 0
climbs starts i zero up = let e : i + 0 ≡ i = omega arith in rw e (omega arith)
climbs starts i (suc d) up =
    let e : i + suc d ≡ i + d + 1 = omega arith in
    let here = up (i + d) (omega arith) (omega arith) in
    rw e (omega (arith, here, climbs starts i d (λ s l h. up s l (omega arith))))

-- a list ends where the next begins, within the names
pub list-within : (starts names : List ℕ) → first_fault (start_fault starts (length names)) (length starts) ≡ None
    → (s : ℕ) → s < list_size starts → (get_or starts s 0 ≤ get_or starts (s + 1) 0) × (get_or starts (s + 1) 0 ≤ length names)
list-within starts names none s h =
    let fits = start_none starts names none in
    let up : (i : ℕ) → i < list_size starts → get_or starts i 0 ≤ get_or starts (i + 1) 0 = λ i l. starts-onward starts (length names) i (fits (i + 1) (omega arith)) in
    let d : ℕ = list_size starts - (s + 1) in
    let e : s + 1 + d ≡ list_size starts = omega arith in
    let end : get_or starts (s + 1 + d) 0 ≡ length names = rw e (starts-last starts (length names) (list_size starts) (omega arith) (fits (list_size starts) (omega arith))) in
    (up s h, omega (arith, end, climbs starts (s + 1) d (λ i l lt. up i (omega arith))))

pub list-rises : (starts names : List ℕ) → rows_fault starts (name_fault starts names) ≡ None
    → (s j k : ℕ) → s < list_size starts → get_or starts s 0 ≤ j → j < k → k < get_or starts (s + 1) 0 → get_or names j 0 < get_or names k 0
list-rises starts names none s j k h l lt hk =
    rises-on names (get_or starts s 0) (get_or starts (s + 1) 0)
    (λ m past before.
    (name-fits names (list_size starts) (get_or starts s 0) s m (name-none starts names (list_size starts) none s m h (omega arith) before)).2 past)
    j
    k
    l
    lt
    hk

-- the names from low up to, without, high
abbrev part : List ℕ → ℕ → ℕ → List ℕ
part names low high = take (high - low) (drop low names)

part-long : (names : List ℕ) (low high : ℕ) → high ≤ length names → length (part names low high) ≡ high - low
part-long names low high within = length-take-le (high - low) (drop low names) (omega (arith, length-drop low names))

part_at : (names : List ℕ) (low high i : ℕ) → i < high - low → get_or (part names low high) i 0 ≡ get_or names (low + i) 0
part_at names low high i h = get_or-take (high - low) (drop low names) i 0 h ∙ get_or-drop low names i 0

-- what a search in a part of the names answers
pub part-searched : (names : List ℕ) (low high b : ℕ) (r : Result ℕ ℕ) → low ≤ high → high ≤ length names
    → ((j k : ℕ) → low ≤ j → j < k → k < high → get_or names j 0 < get_or names k 0)
    → IsBinarySearchResult (λ y. nat_cmp y b) (take (high - low) (drop low names)) r → is_ok r ≡ among_names names low (high - low) b
part-searched names low high b r order within up found = step r (searched (part names low high) b r found not-falling)
  where
    long : length (part names low high) ≡ high - low
    long = part-long names low high within

    at : (i : ℕ) → i < high - low → get_or (part names low high) i 0 ≡ get_or names (low + i) 0
    at = part_at names low high

    not-falling : (i j : ℕ) → i ≤ j → j < length (part names low high) → get_or (part names low high) i 0 ≤ get_or (part names low high) j 0
    not-falling i j le h =
        let hj : j < high - low = omega (arith, long) in
        let hi : i < high - low = omega arith in
        ⊎_elim (λ lt. omega (arith, at i hi, at j hj, up (low + i) (low + j) (omega arith) (omega arith) (omega arith)))
        (λ ge. let e : i ≡ j = omega arith in
        omega (arith, ap (λ (x : ℕ). get_or (part names low high) x 0) e))
        (cases_lt i j)

    step : (s : Result ℕ ℕ)
        → MatchResult s (λ i. (i < length (part names low high)) × (get_or (part names low high) i 0 ≡ b)) (λ i. (i ≤ length (part names low high)) × ((k : ℕ) → k < i → get_or (part names low high) k 0 < b) × ((k : ℕ) → i ≤ k → k < length (part names low high) → b < get_or (part names low high) k 0))
        → is_ok s ≡ among_names names low (high - low) b
    step (Ok i) p =
        let hi : i < high - low = omega (arith, p.0, long) in
        sym (at-among names low (high - low) b (low + i) (omega arith) (omega arith) (sym (at i hi) ∙ p.1))
    step (Err i) p =
        ⊎_elim
        (λ yea. let q = among-at names low (high - low) b yea in
        let k : ℕ = q.0 - low in
        let hk : k < high - low = omega (arith, q.1, q.2) in
        let e : low + k ≡ q.0 = omega (arith, q.1) in
        let is : get_or (part names low high) k 0 ≡ b = at k hk ∙ ap (λ (x : ℕ). get_or names x 0) e ∙ q.3 in
        absurd (⊎_elim (λ lt. omega (arith, is, p.1 k lt)) (λ ge. omega (arith, is, p.2 k ge (omega (arith, long)))) (cases_lt k i)))
        (λ nay. sym nay)
        (cases_Bool (among_names names low (high - low) b))
