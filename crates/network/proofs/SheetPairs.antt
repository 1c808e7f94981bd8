-- The couplings of a sheet as a list that rises: what is in it, and that it is told by what is in it.
use Rattle.std.proofs.Common.{◌≡◌, ℕ, zero, suc, ◌+◌, ◌-◌, ◌*◌, ◌/◌, ◌<◌, ◌≤◌, Bool, true, false, cond, ◌&&◌, ◌||◌, eqb, ltb, List, [], ◌∷◌, ◌++◌, length, get_or, sym, refl, ap, ◌∙◌, subst, ap₂, ⊎_elim, suc-mul, mul-suc, arith}
use Rattle.std.proofs.lemmas.List.{length-append}
use Rattle.std.proofs.lemmas.Bool.{eqb-true, and_parts, or_right, or_cases, false≢true}
use Rattle.std.proofs.lemmas.Bool.Decides.{nat_tests}
use Rattle.network.specs.Sheets.{has_pair, row_to, pairs_to, before}

-- ---- what is in a list of pairs

has-append : (ps qs : List (ℕ × ℕ)) (a b : ℕ) → has_pair (ps ++ qs) a b ≡ (has_pair ps a b || has_pair qs a b)
unfolding has_pair
has-append [] qs a b = refl
has-append (p ∷ ps) qs a b = let e = has-append ps qs a b in grind (arith, nat_tests)

has_one : (c : Bool) (x y a b : ℕ) → has_pair (cond c ((x, y) ∷ []) []) a b ≡ (c && (eqb x a && eqb y b))
unfolding has_pair
has_one true x y a b = grind (arith, nat_tests)
has_one false x y a b = refl

has-row : (C : ℕ → ℕ → Bool) (x y a b : ℕ) → has_pair (row_to C x y) a b ≡ (eqb x a && (ltb b y && C a b))
unfolding row_to has_pair
has-row C x zero a b = grind (arith, nat_tests)
has-row C x (suc y) a b =
    let e = has-append (row_to C x y) (cond (C x y) ((x, y) ∷ []) []) a b in
    let one = has_one (C x y) x y a b in
    let less = has-row C x y a b in
    grind (arith, nat_tests)

pub has-pairs : (C : ℕ → ℕ → Bool) (n a b : ℕ) → has_pair (pairs_to C n) a b ≡ (ltb a n && (ltb b a && C a b))
unfolding pairs_to has_pair
has-pairs C zero a b = grind (arith, nat_tests)
has-pairs C (suc n) a b =
    let e = has-append (pairs_to C n) (row_to C n n) a b in
    let row = has-row C n n a b in
    let less = has-pairs C n a b in
    grind (arith, nat_tests)

pub has-pair-at : (ps : List (ℕ × ℕ)) (k : ℕ) → k < length ps → has_pair ps (get_or ps k (0, 0)).0 (get_or ps k (0, 0)).1 ≡ true
unfolding has_pair
has-pair-at [] k h = absurd (omega arith)
has-pair-at (p ∷ ps) zero h = grind (arith, nat_tests)
has-pair-at (p ∷ ps) (suc k) h = or_right _ _ (has-pair-at ps k (omega arith))

-- what holds at every place holds of every pair that the list has
pub has-each : (P : ℕ → ℕ → Type 0) (ps : List (ℕ × ℕ)) → ((k : ℕ) → k < length ps → P (get_or ps k (0, 0)).0 (get_or ps k (0, 0)).1)
    → (a b : ℕ) → has_pair ps a b ≡ true → P a b
unfolding has_pair
has-each P [] f a b h = absurd (false≢true h)
has-each P (p ∷ ps) f a b h =
    ⊎_elim
    (λ here. let same = and_parts (eqb p.0 a) (eqb p.1 b) here in
    subst (λ (y : ℕ). P a y) (eqb-true _ _ same.1) (subst (λ (x : ℕ). P x p.1) (eqb-true _ _ same.0) (f 0 (omega arith))))
    (λ later. has-each P ps (λ k lt. f (suc k) (omega arith)) a b later)
    (or_cases (eqb p.0 a && eqb p.1 b) (has_pair ps a b) h)

-- ---- lists that rise

-- each pair comes before all that follow it
abbrev pub Rises : List (ℕ × ℕ) → Type 0
Rises [] = Unit {0}
Rises (p ∷ ps) = ((a b : ℕ) → has_pair ps a b ≡ true → before p.0 p.1 a b ≡ true) × Rises ps

rises-append : (ps qs : List (ℕ × ℕ)) → Rises ps → Rises qs
    → ((a b c d : ℕ) → has_pair ps a b ≡ true → has_pair qs c d ≡ true → before a b c d ≡ true) → Rises (ps ++ qs)
unfolding has_pair
rises-append [] qs rp rq h = rq
rises-append (p ∷ ps) qs rp rq h = (
  (λ a b has. ⊎_elim (λ left. rp.0 a b left)
      (λ right. h p.0 p.1 a b (grind (arith, nat_tests)) right)
      (or_cases (has_pair ps a b) (has_pair qs a b) (sym (has-append ps qs a b) ∙ has))),
  rises-append ps qs rp.1 rq (λ a b c d x y. h a b c d (or_right _ _ x) y),
)

rises-one : (c : Bool) (x y : ℕ) → Rises (cond c ((x, y) ∷ []) [])
unfolding has_pair
rises-one true x y = ((λ a b h. absurd (false≢true h)), tt)
rises-one false x y = tt

rises-row : (C : ℕ → ℕ → Bool) (x y : ℕ) → Rises (row_to C x y)
unfolding row_to
rises-row C x zero = tt
rises-row C x (suc y) =
    rises-append (row_to C x y) (cond (C x y) ((x, y) ∷ []) []) (rises-row C x y) (rises-one (C x y) x y)
    (λ a b c d h g. let row = has-row C x y a b in let one = has_one (C x y) x y c d in grind (arith, nat_tests))

pub rises-pairs : (C : ℕ → ℕ → Bool) (n : ℕ) → Rises (pairs_to C n)
unfolding pairs_to
rises-pairs C zero = tt
rises-pairs C (suc n) =
    rises-append (pairs_to C n) (row_to C n n) (rises-pairs C n) (rises-row C n n)
    (λ a b c d h g. let less = has-pairs C n a b in let row = has-row C n n c d in grind (arith, nat_tests))

-- each pair comes before the next one
abbrev pub RisesByOne : List (ℕ × ℕ) → Type 0
RisesByOne ps = (k : ℕ) → suc k < length ps
    → before (get_or ps k (0, 0)).0 (get_or ps k (0, 0)).1 (get_or ps (suc k) (0, 0)).0 (get_or ps (suc k) (0, 0)).1 ≡ true

pub rises_next : (ps : List (ℕ × ℕ)) → Rises ps → RisesByOne ps
rises_next [] r k h = absurd (omega arith)
rises_next (p ∷ ps) r zero h = r.0 _ _ (has-pair-at ps 0 (omega arith))
rises_next (p ∷ ps) r (suc k) h = rises_next ps r.1 k (omega arith)

before_on : (a b c d x y : ℕ) → before a b c d ≡ true → before c d x y ≡ true → before a b x y ≡ true
before_on a b c d x y g h = grind (arith, nat_tests)

pub next-rises : (ps : List (ℕ × ℕ)) → RisesByOne ps → Rises ps
unfolding has_pair
next-rises [] f = tt
next-rises (p ∷ []) f = ((λ a b h. absurd (false≢true h)), tt)
next-rises (p ∷ q ∷ ps) f =
    let rest : Rises (q ∷ ps) = next-rises (q ∷ ps) (λ k lt. f (suc k) (omega arith)) in
    let step : before p.0 p.1 q.0 q.1 ≡ true = f 0 (omega arith) in (
      (λ a b has. ⊎_elim
          (λ here. grind (arith, nat_tests))
          (λ later. before_on p.0 p.1 q.0 q.1 a b step (rest.0 a b later))
          (or_cases (eqb q.0 a && eqb q.1 b) (has_pair ps a b) has)),
      rest,
    )

-- ---- a list that rises is told by what is in it

same_first : (p q : ℕ × ℕ) (ps qs : List (ℕ × ℕ)) → Rises (p ∷ ps) → Rises (q ∷ qs)
    → ((a b : ℕ) → has_pair (p ∷ ps) a b ≡ has_pair (q ∷ qs) a b) → (p.0 ≡ q.0) × (p.1 ≡ q.1)
unfolding has_pair
same_first p q ps qs rp rq h =
    let here = h p.0 p.1 in
    let there = h q.0 q.1 in
    let ahead = rp.0 q.0 q.1 in
    let behind = rq.0 p.0 p.1 in
    (grind (arith, nat_tests), grind (arith, nat_tests))

same_rest : (p q : ℕ × ℕ) (ps qs : List (ℕ × ℕ)) → Rises (p ∷ ps) → Rises (q ∷ qs) → (p.0 ≡ q.0) × (p.1 ≡ q.1)
    → ((a b : ℕ) → has_pair (p ∷ ps) a b ≡ has_pair (q ∷ qs) a b) → (a b : ℕ) → has_pair ps a b ≡ has_pair qs a b
unfolding has_pair
same_rest p q ps qs rp rq e h a b =
    let all = h a b in
    let left = rp.0 a b in
    let right = rq.0 a b in
    grind (arith, nat_tests, e.0, e.1)

pub same-pairs : (ps qs : List (ℕ × ℕ)) → Rises ps → Rises qs → ((a b : ℕ) → has_pair ps a b ≡ has_pair qs a b) → ps ≡ qs
unfolding has_pair
same-pairs [] [] rp rq h = refl
same-pairs [] (q ∷ qs) rp rq h = absurd (false≢true (h q.0 q.1 ∙ has-pair-at (q ∷ qs) 0 (omega arith)))
same-pairs (p ∷ ps) [] rp rq h = absurd (false≢true (sym (h p.0 p.1) ∙ has-pair-at (p ∷ ps) 0 (omega arith)))
same-pairs (p ∷ ps) (q ∷ qs) rp rq h =
    let first = same_first p q ps qs rp rq h in
    ap₂ (λ (x : ℕ × ℕ) (xs : List (ℕ × ℕ)). x ∷ xs) (ap₂ (λ (x y : ℕ). (x, y)) first.0 first.1)
    (same-pairs ps qs rp.1 rq.1 (same_rest p q ps qs rp rq first h))

-- ---- how many couplings there can be

one-short : (c : Bool) (p : ℕ × ℕ) → length (cond c (p ∷ []) []) ≤ 1
one-short true p = omega arith
one-short false p = omega arith

pub row-short : (C : ℕ → ℕ → Bool) (x y : ℕ) → length (row_to C x y) ≤ y
unfolding row_to
row-short C x zero = omega arith
row-short C x (suc y) = omega (arith, length-append (row_to C x y) (cond (C x y) ((x, y) ∷ []) []), one-short (C x y) (x, y), row-short C x y)

pairs-square : (C : ℕ → ℕ → Bool) (n : ℕ) → 2 * length (pairs_to C n) + n ≤ n * n
unfolding pairs_to
pairs-square C zero = omega arith
pairs-square C (suc n) =
    omega (arith, length-append (pairs_to C n) (row_to C n n), row-short C n n, pairs-square C n, mul-suc (suc n) n, suc-mul n n)

pub pairs-short : (C : ℕ → ℕ → Bool) (n : ℕ) → length (pairs_to C n) ≤ n * (n - 1) / 2
pairs-short C zero = omega (arith, pairs-square C 0)
pairs-short C (suc n) =
    let less : suc n - 1 ≡ n = omega arith in
    omega (arith, pairs-square C (suc n), mul-suc (suc n) n, ap (λ (x : ℕ). suc n * x) less)
