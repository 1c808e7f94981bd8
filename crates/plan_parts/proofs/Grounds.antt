-- A filled pair is a coupling, or an earlier member forms filled pairs with both of its two; and what an order closes, by positions.
use Rattle.std.proofs.Common.{◌≡◌, ℕ, zero, suc, ◌<◌, true, ◌≢◌, ◌⊎◌, List, [], ◌∷◌, length, get_or, refl, ap, ◌∙◌, inl, inr, ⊎_elim, arith}
use Rattle.std.proofs.lemmas.Bool.{or_cases, or_left, or_right}
use Rattle.elimination.specs.Graphs.{Graph}
use Rattle.elimination.specs.Orders.{In, Distinct}
use Rattle.elimination.specs.Elimination.{after, filled}
use Rattle.elimination.proofs.Relations.{Symmetric, Within, Closed}
use Rattle.elimination.proofs.Least.{after-cases, within-after, left_in, filled-symmetric}
use Rattle.elimination.proofs.Listing.{get_or-in, index_of, same_place}

-- u comes before a
abbrev Before : ℕ → ℕ → List ℕ → Type 0
Before u a [] = ⊥
Before u a (x ∷ xs) = ((u ≡ x) × In a xs) ⊎ Before u a xs

record Ground (C : Graph) (xs : List ℕ) (a b : ℕ) : Type 0 where
  pub by : ℕ
  pub first : Before by a xs
  pub second : Before by b xs
  pub left : filled C xs by a ≡ true
  pub right : filled C xs by b ≡ true

ground : (C : Graph) (xs : List ℕ) (a b : ℕ) → Within C xs → filled C xs a b ≡ true → (C a b ≡ true) ⊎ Ground C xs a b
ground C [] a b w h = inl h
ground C (v ∷ vs) a b w h =
    ⊎_elim (λ (t : C a b ≡ true). inl t)
    (λ (t : filled (after C v) vs a b ≡ true). ⊎_elim here there (ground (after C v) vs a b (within-after C v vs w) t))
    (or_cases (C a b) (filled (after C v) vs a b) h)
  where
    here : after C v a b ≡ true → (C a b ≡ true) ⊎ Ground C (v ∷ vs) a b
    here t =
        let q = after-cases C v a b t in
        ⊎_elim (λ (g : C a b ≡ true). inl g)
        (λ (g : (C v a ≡ true) × (C v b ≡ true) × (a ≢ b)). inr (record {
          by = v;
          first = inl (refl, left_in v a vs q.0 (w v a g.0).1);
          second = inl (refl, left_in v b vs q.1 (w v b g.1).1);
          left = or_left (C v a) (filled (after C v) vs v a) g.0;
          right = or_left (C v b) (filled (after C v) vs v b) g.1;
        })) q.2

    there : Ground (after C v) vs a b → (C a b ≡ true) ⊎ Ground C (v ∷ vs) a b
    there g = inr (record {
      by = g.by;
      first = inr g.first;
      second = inr g.second;
      left = or_right (C g.by a) (filled (after C v) vs g.by a) g.left;
      right = or_right (C g.by b) (filled (after C v) vs g.by b) g.right;
    })

before-in : (xs : List ℕ) (u a : ℕ) → Before u a xs → In a xs
before-in [] u a b = b
before-in (x ∷ xs) u a (inl p) = inr p.1
before-in (x ∷ xs) u a (inr b) = inr (before-in xs u a b)

before-in-first : (xs : List ℕ) (u a : ℕ) → Before u a xs → In u xs
before-in-first [] u a b = b
before-in-first (x ∷ xs) u a (inl p) = inl p.0
before-in-first (x ∷ xs) u a (inr b) = inr (before-in-first xs u a b)

-- what comes before has the smaller position
before-lt : (xs : List ℕ) (k i : ℕ) → Distinct xs → k < length xs → i < length xs → Before (get_or xs k 0) (get_or xs i 0) xs → k < i
before-lt [] k i d hk hi b = absurd b
before-lt (x ∷ xs) zero zero d hk hi (inl p) = absurd (d.0 p.1)
before-lt (x ∷ xs) zero zero d hk hi (inr b) = absurd (d.0 (before-in xs x x b))
before-lt (x ∷ xs) zero (suc i) d hk hi b = omega arith
before-lt (x ∷ xs) (suc k) zero d hk hi (inl p) = absurd (d.0 p.1)
before-lt (x ∷ xs) (suc k) zero d hk hi (inr b) = absurd (d.0 (before-in xs (get_or xs k 0) x b))
before-lt (x ∷ xs) (suc k) (suc i) d hk hi (inl p) = absurd (d.0 (rw p.0 at (get_or-in xs k (omega arith))))
before-lt (x ∷ xs) (suc k) (suc i) d hk hi (inr b) = let r = before-lt xs k i d.1 (omega arith) (omega arith) b in omega (arith, r)

pub grounded : (C : Graph) (xs : List ℕ) → Symmetric C → Distinct xs → Within C xs → (i j : ℕ) → i < length xs → j < i
    → filled C xs (get_or xs i 0) (get_or xs j 0) ≡ true
    → (C (get_or xs i 0) (get_or xs j 0) ≡ true)
    ⊎ ((k : ℕ) × (k < j) × (filled C xs (get_or xs i 0) (get_or xs k 0) ≡ true) × (filled C xs (get_or xs j 0) (get_or xs k 0) ≡ true))
grounded C xs s d w i j li ji h =
    ⊎_elim (λ (t : C (get_or xs i 0) (get_or xs j 0) ≡ true). inl t) (λ (g : Ground C xs (get_or xs i 0) (get_or xs j 0)). inr (go g))
    (ground C xs (get_or xs i 0) (get_or xs j 0) w h)
  where
    go : Ground C xs (get_or xs i 0) (get_or xs j 0) → (k : ℕ) × (k < j) × (filled C xs (get_or xs i 0) (get_or xs k 0) ≡ true) × (filled C xs (get_or xs j 0) (get_or xs k 0) ≡ true)
    go g =
        let r = index_of xs g.by (before-in-first xs g.by (get_or xs i 0) g.first) in
        let k : ℕ = r.0 in
        let lk : k < length xs = r.1 in
        let e : get_or xs k 0 ≡ g.by = r.2 in
        let b : Before (get_or xs k 0) (get_or xs j 0) xs = rw e g.second in (
          k,
          before-lt xs k j d lk (omega arith) b,
          rw e (filled-symmetric C xs s (get_or xs i 0) g.by ∙ g.left),
          rw e (filled-symmetric C xs s (get_or xs j 0) g.by ∙ g.right),
        )

pub get_or-apart : (xs : List ℕ) (i j : ℕ) → Distinct xs → i < length xs → j < length xs → i ≢ j → get_or xs i 0 ≢ get_or xs j 0
get_or-apart xs i j d hi hj n e = n (same_place xs d i j hi hj e)

-- what an order closes, by positions
pub closed-positions : (H : Graph) (xs : List ℕ) → Distinct xs → Closed H xs → (i j k : ℕ) → i < length xs → j < length xs → i ≢ j → k < i → k < j
    → H (get_or xs k 0) (get_or xs i 0) ≡ true → H (get_or xs k 0) (get_or xs j 0) ≡ true → H (get_or xs i 0) (get_or xs j 0) ≡ true
closed-positions H [] d c i j k hi hj n ki kj l r = absurd (omega arith)
closed-positions H (x ∷ xs) d c zero j k hi hj n ki kj l r = absurd (omega arith)
closed-positions H (x ∷ xs) d c (suc i) zero k hi hj n ki kj l r = absurd (omega arith)
closed-positions H (x ∷ xs) d c (suc i) (suc j) zero hi hj n ki kj l r =
    c.0 (get_or xs i 0) (get_or xs j 0) (get_or-in xs i (omega arith)) (get_or-in xs j (omega arith)) (get_or-apart xs i j d.1 (omega arith) (omega arith) (λ q. n (ap suc q))) l r
closed-positions H (x ∷ xs) d c (suc i) (suc j) (suc k) hi hj n ki kj l r =
    closed-positions H xs d.1 c.1 i j k (omega arith) (omega arith) (λ q. n (ap suc q)) (omega arith) (omega arith) l r
