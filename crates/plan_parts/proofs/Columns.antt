-- The columns of a reserve, as its words count them: how many places they have, and at most.
use Rattle.std.proofs.Common.{◌≡◌, ℕ, zero, suc, ◌+◌, ◌-◌, ◌*◌, ◌<◌, ◌≤◌, Bool, true, false, cond, ◌&&◌, ltb, List, length, get_or, set, Some, None, Option, sym, refl, ap, ◌∙◌, ⊎_elim, add-one, arith}
use Rattle.std.proofs.lemmas.List.{get_or-set_same, get_or-set_other}
use Rattle.std.proofs.lemmas.Bool.{and_from, and_right, cases_eq, lt-ltb}
use Rattle.std.proofs.lemmas.Bool.Decides.{nat_tests}
use Rattle.network.specs.Bits.{count_to}
use Rattle.network.specs.Laws.{FirstIs}
use Rattle.network.proofs.Bits.{count_to-add, count_to-same}
use Rattle.elimination.specs.Graphs.{Graph}
use Rattle.elimination.specs.View.{graph}
use Rattle.elimination.specs.declared.pair_set.PairSet.{PairSet}
use Rattle.elimination.specs.Words.{between}
use Rattle.elimination.proofs.RowTests.{is-next}
use Rattle.plan_parts.specs.Layout.{in_column, rank, start, cell, later}
use Rattle.plan_parts.specs.Reserves.{Symmetric, Below, has_place, next_of_column}
use Rattle.plan_parts.proofs.Numbering.{no_cell, rank-later, start-mono, start-suc, some-cell}

-- ---- a rank is one count over a row

later-count : (F : Graph) (j i : ℕ) → later F j i ≡ count_to (λ x. ltb j x && F x j) i
unfolding later count_to
later-count F j zero = refl
later-count F j (suc i) = ap (λ (m : ℕ). m + cond (ltb j i && F i j) 1 0) (later-count F j i)

count_none : (p : ℕ → Bool) (n : ℕ) → ((k : ℕ) → k < n → p k ≡ false) → count_to p n ≡ 0
unfolding count_to
count_none p zero f = refl
count_none p (suc n) f = let ih = count_none p n (λ k h. f k (omega arith)) in let e = f n (omega arith) in let z : ◌≡◌ {A = ℕ} (cond (p n) 1 0) 0 = ap (λ (b : Bool). cond b 1 0) e in omega arith

counted : (F : Graph) (j i : ℕ) → Symmetric F → i ≤ 512 → count_to (between F j (j + 1) i) 512 ≡ later F j i
counted F j i s h =
    let e : i + (512 - i) ≡ 512 = omega arith in
    let parts = count_to-add (between F j (j + 1) i) i (512 - i) in
    let high = count_none (λ k. between F j (j + 1) i (i + k)) (512 - i) (λ k l. past k) in
    let low = count_to-same (between F j (j + 1) i) (λ x. ltb j x && F x j) i (λ k l. within k l) in
    sym (ap (count_to (between F j (j + 1) i)) e) ∙ parts ∙ omega (arith, later-count F j i)
  where
    past : (k : ℕ) → between F j (j + 1) i (i + k) ≡ false
    past k = grind (arith, nat_tests)

    within : (k : ℕ) → k < i → between F j (j + 1) i k ≡ (ltb j k && F k j)
    within k l = grind (arith, nat_tests, s j k)

pub rank-counted : (F : Graph) (j i : ℕ) → Symmetric F → j < i → i ≤ 512 → rank F j i ≡ 1 + count_to (between F j (j + 1) i) 512
rank-counted F j i s lt h = rank-later F j i ∙ simp (lt-ltb j i lt) (omega (arith, counted F j i s h))

-- ---- how many places there are at most

later-few : (F : Graph) (j i : ℕ) → later F j i ≤ i - (j + 1)
unfolding later
later-few F j zero = omega arith
later-few F j (suc i) = let ih = later-few F j i in grind (arith, nat_tests)

rank-few : (F : Graph) (j n : ℕ) → rank F j n ≤ n - j
rank-few F j n = let e = rank-later F j n in let few = later-few F j n in grind (arith, nat_tests)

pub rank-own : (F : Graph) (j : ℕ) → rank F j j ≡ 0
rank-own F j = omega (arith, rank-few F j j)

start-few : (F : Graph) (n m : ℕ) → n ≤ 512 → m ≤ 512 → 2 * start F n m + m * m ≤ 1025 * m
unfolding start
start-few F n zero h l = omega arith
start-few F n (suc m) h l = omega (arith, start-few F n m h (omega arith), rank-few F m n)

pub start_small : (F : Graph) (n m : ℕ) → n ≤ 512 → m ≤ 512 → start F n m ≤ 131328
start_small F n m h l = omega (arith, start-mono F n m 512 l, start-few F n 512 h (omega arith))

-- ---- where columns begin

-- the numbers up to j are where the columns begin
abbrev pub BeginsTo : Graph → ℕ → ℕ → List ℕ → Type 0
BeginsTo F n j starts = (k : ℕ) → k ≤ j → get_or starts k 0 ≡ start F n k

pub begins-none : (F : Graph) (n : ℕ) (starts : List ℕ) → get_or starts 0 0 ≡ 0 → BeginsTo F n 0 starts
unfolding start
begins-none F n starts e k h = let z : k ≡ 0 = omega arith in rw z e

pub begins-more : (F : Graph) (n j : ℕ) (starts : List ℕ) (count : ℕ) → Symmetric F → j < n → n ≤ 512 → length starts ≡ 513
    → count ≡ count_to (between F j (j + 1) n) 512 → BeginsTo F n j starts → BeginsTo F n (j + 1) (set starts (j + 1) (get_or starts j 0 + 1 + count))
begins-more F n j starts count s lt few len e b k h = ⊎_elim here there (cases_eq k (j + 1))
  where
    v : ℕ
    v = get_or starts j 0 + 1 + count

    here : k ≡ j + 1 → get_or (set starts (j + 1) v) k 0 ≡ start F n k
    here q =
        let room : j + 1 < length starts = omega arith in
        let same = get_or-set_same starts (j + 1) v 0 room in
        let next : start F n (j + 1) ≡ start F n j + rank F j n = ap (start F n) (add-one j) ∙ start-suc F n j in
        rw q (omega (arith, same, next, b j (omega arith), rank-counted F j n s lt few))

    there : (k ≡ j + 1 → ⊥) → get_or (set starts (j + 1) v) k 0 ≡ start F n k
    there q = get_or-set_other starts (j + 1) k v 0 q ∙ b k (omega arith)

-- ---- which rows a column has

pub column-own : (F : Graph) (j : ℕ) → in_column F j j ≡ true
unfolding in_column
column-own F j = grind (arith, nat_tests)

column-above : (F : Graph) (j i : ℕ) → i < j → in_column F j i ≡ false
unfolding in_column
column-above F j i lt = grind (arith, nat_tests)

pub column-later : (F : Graph) (j i : ℕ) → j < i → in_column F j i ≡ F i j
unfolding in_column
column-later F j i lt = grind (arith, nat_tests)

pub cell_own : (F : Graph) (n i j : ℕ) → i ≡ j → i < n → cell F n i j ≡ Some (start F n j)
cell_own F n i j e lt = rw e (some-cell F n j j (omega (arith, e, lt)) (column-own F j) ∙ ap (λ (p : ℕ). Some p) (omega (arith, rank-own F j)))

pub cell_above : (F : Graph) (n i j : ℕ) → i < j → cell F n i j ≡ None
cell_above F n i j lt = no_cell F n i j (column-above F j i lt)

pub cell_unpaired : (F : Graph) (n i j : ℕ) → j < i → F i j ≡ false → cell F n i j ≡ None
cell_unpaired F n i j lt e = no_cell F n i j (column-later F j i lt ∙ e)

pub cell_later : (pairs : PairSet) (n i j : ℕ) → j < i → i < n → n ≤ 512 → graph pairs i j ≡ true
    → cell (graph pairs) n i j ≡ Some (start (graph pairs) n j + 1 + count_to (between (graph pairs) j (j + 1) i) 512)
cell_later pairs n i j lt h few e =
    some-cell (graph pairs) n i j h (column-later (graph pairs) j i lt ∙ e) ∙ ap (λ (p : ℕ). Some p) (omega (arith, rank-counted (graph pairs) j i pairs.mirrored lt (omega arith)))

-- ---- the next row of a column

module _ (F : Graph) (n j from : ℕ) (few : n ≤ 512) where
  pub next-outside : n ≤ j → FirstIs (has_place F n j) from 512 None
  unfolding in_column
  next-outside le i l h = grind (arith, nat_tests)

  pub next-own : j < n → from ≤ j → FirstIs (has_place F n j) from 512 (Some j)
  next-own lt le = (le, omega arith, and_from (ltb j n) (in_column F j j) (lt-ltb j n lt) (column-own F j), λ i l h. and_right (ltb i n) (in_column F j i) (column-above F j i h))

  pub next-later : Symmetric F → Below F n → j < from → (o : Option ℕ) → FirstIs (F j) from 512 o → FirstIs (has_place F n j) from 512 o
  next-later s below lt o f = elim o as (λ (x : Option ℕ). FirstIs (F j) from 512 x → FirstIs (has_place F n j) from 512 x) [
    | Some t ↦ λ g. (g.0, g.1, here t g.0 g.2, λ i l h. none i l (g.3 i l h))
    | None ↦ λ g i l h. none i l (g i l h)
  ] f
    where
      here : (t : ℕ) → from ≤ t → F j t ≡ true → has_place F n j t ≡ true
      here t l e = and_from (ltb t n) (in_column F j t) (lt-ltb t n (below j t e).1) (column-later F j t (omega arith) ∙ s t j ∙ e)

      none : (i : ℕ) → from ≤ i → F j i ≡ false → has_place F n j i ≡ false
      none i l e = and_right (ltb i n) (in_column F j i) (column-later F j i (omega arith) ∙ s i j ∙ e)

  pub first_next : (o : Option ℕ) → FirstIs (has_place F n j) from 512 o → o ≡ next_of_column F n j from
  first_next o f = is-next (has_place F n) j from o f
