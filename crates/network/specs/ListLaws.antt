-- What lists without a fault are, in plain words: every coupling is named from both sides.
-- Below it the proof that the network of such lists is lawful, which the list network cites.
use Rattle.std.specs.Prelude.{◌≡◌, ℕ, zero, suc, ◌+◌, ◌-◌, ◌<◌, ◌≤◌, Bool, true, false, cond, not, ◌&&◌, ◌||◌, List, length, is_some, Some, None, Option, ◌==◌, ◌≢◌, nat_eq, nat_le, nat_lt, slice_index, slice_index_or, refl}
use Rattle.std.proofs.Common.{sym, ap, ◌∙◌, ⊎_elim, arith}
use Rattle.std.proofs.lemmas.Bool.{cases_lt, cases_Bool, eq-eqb, ne_eqb, eqb-true, eqb-false, lt-ltb, ltb-true, leb-true, and_parts, and_from, or_cases, or_left, or_right, not-true, both_ways}
use Rattle.network.specs.Net.{Lawful}
use Rattle.network.specs.Refusals.{Fault, refuse, or_else, first_fault}
use Rattle.network.specs.Lists.{list_size, InList, among_names, named_in, list_net, starts_length_fault, is_fitting_start, start_fault, is_fitting_name, name_fault, one_sided_fault, row_fault, rows_fault, lists_fault}

-- somewhere in the list of a stands b
abbrev pub Names : List ℕ → List ℕ → ℕ → ℕ → Type 0
Names starts names a b = (k : ℕ) × InList starts a k × (slice_index names k ≡ b)

pub record WellFormed (starts names : List ℕ) : Type 0 where
  -- 1 to 512 stations
  pub some : 2 ≤ length starts
  pub few : length starts ≤ 513
  -- the lists lie one after the other, without gaps, and take up all the names
  pub first : slice_index_or starts 0 0 ≡ 0
  pub onward : (s : ℕ) → s < list_size starts → slice_index starts s ≤ slice_index starts (s + 1)
  pub last : slice_index_or starts (list_size starts) 0 ≡ length names
  -- every name is a station, and another one than that whose list it stands in
  pub known : (s k : ℕ) → InList starts s k → slice_index names k < list_size starts
  pub other : (s k : ℕ) → InList starts s k → slice_index names k ≢ s
  -- names rise within a list
  pub rising : (s j k : ℕ) → InList starts s j → InList starts s k → j < k → slice_index names j < slice_index names k
  -- a coupling is named from both sides
  pub both_sides : (a b : ℕ) → Names starts names a b → Names starts names b a

-- lists without a fault are just the well formed ones
abbrev pub FaultlessListsAreWellFormed : Type 0
FaultlessListsAreWellFormed =
    (starts names : List ℕ) → (lists_fault starts names ≡ None → WellFormed starts names) × (WellFormed starts names → lists_fault starts names ≡ None)

-- in the network of well formed lists two numbers are coupled just where the list of the one names the other
abbrev pub CoupledStationsAreNamed : Type 0
CoupledStationsAreNamed =
    (starts names : List ℕ) → WellFormed starts names → (a b : ℕ)
    → ((list_net starts names).coupled a b ≡ true → Names starts names a b) × (Names starts names a b → (list_net starts names).coupled a b ≡ true)

-- ---- what the absence of a fault says

pub found_none : {f : Fault} → ◌≡◌ {A = Option Fault} (Some f) None → ⊥
found_none p = let z : ◌≡◌ {A = ℕ} 0 1 = cc in omega arith

pub passed : (b : Bool) (x : Option Fault) (n p : ℕ) → cond b x (refuse n p) ≡ None → (b ≡ true) × (x ≡ None)
passed true x n p h = (refl, h)
passed false x n p h = absurd (found_none h)

pub neither : (x y : Option Fault) → or_else x y ≡ None → (x ≡ None) × (y ≡ None)
neither (Some f) y h = absurd (found_none h)
neither None y h = (refl, h)

pub each_none : (found : ℕ → Option Fault) (k : ℕ) → first_fault found k ≡ None → (j : ℕ) → j < k → found j ≡ None
unfolding first_fault
each_none found zero h j lt = absurd (omega arith)
each_none found (suc k) h j lt =
    let both = neither (first_fault found k) (found k) h in
    ⊎_elim (λ less. each_none found k both.0 j less)
    (λ ge. let e : j ≡ k = omega arith in
    ap found e ∙ both.1)
    (cases_lt j k)

pub rows_none : (starts : List ℕ) (found : ℕ → ℕ → Option Fault) (n : ℕ) → first_fault (row_fault starts found) n ≡ None
    → (s k : ℕ) → s < n → slice_index starts s ≤ k → k < slice_index starts (s + 1) → found s k ≡ None
unfolding row_fault
rows_none starts found n h s k hs low high =
    let row = each_none (row_fault starts found) n h s hs in
    let e : slice_index_or starts s 0 + (k - slice_index starts s) ≡ k = omega arith in
    ap (found s) (sym e) ∙ each_none (λ j. found s (slice_index starts s + j)) _ row (k - slice_index starts s) (omega arith)

-- ---- names by their places

pub among-at : (names : List ℕ) (low k b : ℕ) → among_names names low k b ≡ true → (j : ℕ) × (low ≤ j) × (j < low + k) × (slice_index names j ≡ b)
unfolding among_names
among-at names low zero b h = absurd (both_ways false refl h)
among-at names low (suc k) b h =
    ⊎_elim
    (λ before. let p = among-at names low k b before in
    (p.0, p.1, omega (arith, p.2), p.3))
    (λ here. (low + k, omega arith, omega arith, eqb-true _ _ here))
    (or_cases (among_names names low k b) (slice_index names (low + k) == b) h)

pub at-among : (names : List ℕ) (low k b j : ℕ) → low ≤ j → j < low + k → slice_index names j ≡ b → among_names names low k b ≡ true
unfolding among_names
at-among names low zero b j l h e = absurd (omega arith)
at-among names low (suc k) b j l h e =
    ⊎_elim (λ less. or_left _ _ (at-among names low k b j l less e))
    (λ ge. let q : low + k ≡ j = omega arith in
    or_right (among_names names low k b) _ (eq-eqb _ _ (ap (λ (x : ℕ). slice_index names x) q ∙ e)))
    (cases_lt j (low + k))

pub named-at : (starts names : List ℕ) (a b : ℕ) → a < list_size starts → named_in starts names a b ≡ true → Names starts names a b
unfolding named_in
named-at starts names a b ha h =
    let p = among-at names (slice_index starts a) (slice_index starts (a + 1) - slice_index starts a) b h in
    (p.0, (ha, p.1, omega (arith, p.1, p.2)), p.3)

pub at_named : (starts names : List ℕ) (a b : ℕ) → Names starts names a b → named_in starts names a b ≡ true
unfolding named_in
at_named starts names a b p = at-among names (slice_index starts a) _ b p.0 p.1.1 (omega (arith, p.1.1, p.1.2)) p.2

-- ---- lists without a fault are well formed

pub start_none : (starts names : List ℕ) → first_fault (start_fault starts (length names)) (length starts) ≡ None
    → (i : ℕ) → i < length starts → is_fitting_start starts (length names) i ≡ true
start_none starts names h i lt = (passed _ None 10 i (each_none (start_fault starts (length names)) (length starts) h i lt)).0

pub starts_first : (starts : List ℕ) (count : ℕ) → is_fitting_start starts count 0 ≡ true → slice_index starts 0 ≡ 0
starts_first starts count h = eqb-true _ _ (and_parts (slice_index starts 0 == 0) _ h).0

pub starts-onward : (starts : List ℕ) (count s : ℕ) → is_fitting_start starts count (s + 1) ≡ true → slice_index starts s ≤ slice_index starts (s + 1)
starts-onward starts count s h =
    let e : s + 1 - 1 ≡ s = omega arith in
    let z : nat_eq (s + 1) 0 ≡ false = ne_eqb _ _ (λ q. omega arith) in
    let both = and_parts (cond (s + 1 == 0) (slice_index starts (s + 1) == 0) (nat_le (slice_index starts (s + 1 - 1)) (slice_index starts (s + 1)))) _ h in
    leb-true _ _ (rw (z, e) at both.0)

pub starts-last : (starts : List ℕ) (count i : ℕ) → length starts ≤ i + 1 → is_fitting_start starts count i ≡ true → slice_index starts i ≡ count
starts-last starts count i past h =
    let both = and_parts (cond (i == 0) (slice_index starts i == 0) (nat_le (slice_index starts (i - 1)) (slice_index starts i))) (nat_lt (i + 1) (length starts) || slice_index starts i == count) h in
    ⊎_elim (λ inside. absurd (omega (arith, ltb-true _ _ inside))) (λ here. eqb-true _ _ here) (or_cases (nat_lt (i + 1) (length starts)) _ both.1)

pub name-fits : (names : List ℕ) (n low s k : ℕ) → is_fitting_name names n low s k ≡ true
    → (slice_index names k < n) × (slice_index names k ≢ s) × (low < k → slice_index names (k - 1) < slice_index names k)
name-fits names n low s k h =
    let both = and_parts (nat_lt (slice_index names k) n && not (slice_index names k == s)) (k == low || nat_lt (slice_index names (k - 1)) (slice_index names k)) h in
    let own = and_parts (nat_lt (slice_index names k) n) (not (slice_index names k == s)) both.0 in (
      ltb-true _ _ own.0,
      eqb-false _ _ (not-true _ own.1),
      λ past. ⊎_elim (λ q. absurd (omega (arith, eqb-true _ _ q))) (λ up. ltb-true _ _ up) (or_cases (k == low) _ both.1),
    )

-- names that rise from each to the next rise altogether
pub rises-on : (names : List ℕ) (low high : ℕ) → ((k : ℕ) → low < k → k < high → slice_index names (k - 1) < slice_index names k)
    → (j k : ℕ) → low ≤ j → j < k → k < high → slice_index names j < slice_index names k
rises-on names low high step j zero l lt h = absurd (omega arith)
rises-on names low high step j (suc k) l lt h =
    let e : suc k - 1 ≡ k = omega arith in
    let up : slice_index_or names k 0 < slice_index_or names (suc k) 0 = rw e at (step (suc k) (omega arith) h) in
    ⊎_elim (λ less. omega (arith, up, rises-on names low high step j k l less (omega arith)))
    (λ ge. let q : j ≡ k = omega arith in
    omega (arith, up, ap (λ (x : ℕ). slice_index names x) q))
    (cases_lt j k)

pub name-none : (starts names : List ℕ) (n : ℕ) → first_fault (row_fault starts (name_fault starts names)) n ≡ None
    → (s k : ℕ) → s < n → slice_index starts s ≤ k → k < slice_index starts (s + 1) → is_fitting_name names (list_size starts) (slice_index starts s) s k ≡ true
name-none starts names n h s k hs low high = (passed _ None 11 k (rows_none starts (name_fault starts names) n h s k hs low high)).0

-- no check found a fault
pub checks-passed : (starts names : List ℕ) → lists_fault starts names ≡ None
    → (2 ≤ length starts)
    × (length starts ≤ 513)
    × (first_fault (start_fault starts (length names)) (length starts) ≡ None)
    × (rows_fault starts (name_fault starts names) ≡ None)
    × (rows_fault starts (one_sided_fault starts names) ≡ None)
unfolding lists_fault
checks-passed starts names none =
    let counted = neither (starts_length_fault starts) _ none in
    let in-range = (passed (nat_le 2 (length starts) && nat_le (length starts) 513) None 9 (length starts) counted.0).0 in
    let parts = and_parts (nat_le 2 (length starts)) (nat_le (length starts) 513) in-range in
    let begun = neither (first_fault (start_fault starts (length names)) (length starts)) _ counted.1 in
    let named = neither (rows_fault starts (name_fault starts names)) (rows_fault starts (one_sided_fault starts names)) begun.1 in
    (leb-true _ _ parts.0, leb-true _ _ parts.1, begun.0, named.0, named.1)

pub well-formed : (starts names : List ℕ) → lists_fault starts names ≡ None → WellFormed starts names
well-formed starts names none =
    let n = list_size starts in
    let all = checks-passed starts names none in
    let some : 2 ≤ length starts = all.0 in
    let fits = start_none starts names all.2 in
    let name : (s k : ℕ) → InList starts s k → is_fitting_name names n (slice_index starts s) s k ≡ true = λ s k i. name-none starts names n all.3 s k i.0 i.1 i.2 in
    record {
      some = some;
      few = all.1;
      first = starts_first starts (length names) (fits 0 (omega arith));
      onward = λ s h. starts-onward starts (length names) s (fits (s + 1) (omega arith));
      last = starts-last starts (length names) n (omega arith) (fits n (omega arith));
      known = λ s k i. (name-fits names n (slice_index starts s) s k (name s k i)).0;
      other = λ s k i. (name-fits names n (slice_index starts s) s k (name s k i)).1;
      rising = λ s j k i l lt.
          rises-on names (slice_index starts s) (slice_index starts (s + 1))
          (λ m past before. (name-fits names n (slice_index starts s) s m (name s m (i.0, omega arith, before))).2 past)
          j
          k
          i.1
          lt
          l.2;
      both_sides = λ a b p.
          let there : named_in starts names (slice_index names p.0) a ≡ true =
          (passed _ None 12 p.0 (rows_none starts (one_sided_fault starts names) n all.4 a p.0 p.1.0 p.1.1 p.1.2)).0 in
          let known : slice_index_or names p.0 0 < n = (name-fits names n (slice_index starts a) a p.0 (name a p.0 p.1)).0 in
          named-at starts names b a (omega (arith, known, p.2)) (ap (λ (x : ℕ). named_in starts names x a) (sym p.2) ∙ there);
    }

-- ---- the network of well formed lists

pub coupled-named : (starts names : List ℕ) (a b : ℕ) → (list_net starts names).coupled a b ≡ true → Names starts names a b
coupled-named starts names a b h =
    let n = list_size starts in
    let both = and_parts (nat_lt a n && nat_lt b n) (named_in starts names a b) h in
    named-at starts names a b (ltb-true _ _ (and_parts (nat_lt a n) (nat_lt b n) both.0).0) both.1

pub named-coupled : (starts names : List ℕ) → WellFormed starts names → (a b : ℕ) → Names starts names a b → (list_net starts names).coupled a b ≡ true
named-coupled starts names w a b p =
    let n = list_size starts in
    let hb : b < n = omega (arith, w.known a p.0 p.1, p.2) in
    and_from _ _ (and_from _ _ (lt-ltb a n p.1.0) (lt-ltb b n hb)) (at_named starts names a b p)

same_truth : (x y : Bool) → (x ≡ true → y ≡ true) → (y ≡ true → x ≡ true) → x ≡ y
same_truth true y f g = sym (f refl)
same_truth false true f g = g refl
same_truth false false f g = refl

pub no-fault : (o : Option Fault) → is_some o ≡ false → o ≡ None
no-fault (Some f) h = absurd (both_ways true h refl)
no-fault None h = refl

pub list_lawful : (starts names : List ℕ) → is_some (lists_fault starts names) ≡ false → Lawful (list_net starts names)
list_lawful starts names none =
    let w = well-formed starts names (no-fault (lists_fault starts names) none) in
    let turned : (a b : ℕ) → (list_net starts names).coupled a b ≡ true → (list_net starts names).coupled b a ≡ true =
    λ a b h. named-coupled starts names w b a (w.both_sides a b (coupled-named starts names a b h)) in
    record {
      some = omega (arith, w.some);
      few = omega (arith, w.few);
      symmetric = λ a b. same_truth _ _ (turned a b) (turned b a);
      irreflexive = λ a.
          ⊎_elim
          (λ yea. let p = coupled-named starts names a a yea in
          absurd (w.other a p.0 p.1 p.2))
          (λ nay. nay)
          (cases_Bool ((list_net starts names).coupled a a));
      within = λ a b h. (coupled-named starts names a b h).1.0;
    }
