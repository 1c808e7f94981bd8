-- What elimination fills: it holds the graph, is closed under the order, and is the least such.
use Rattle.std.proofs.Common.{◌≡◌, ℕ, true, ◌||◌, ◌≢◌, ◌⊎◌, List, [], ◌∷◌, refl, ap₂, inl, inr, ⊎_elim, arith}
use Rattle.std.proofs.lemmas.Bool.{or_cases, or_left, or_right}
use Rattle.std.proofs.lemmas.Bool.Decides.{nat_tests}
use Rattle.elimination.proofs.Relations.{Symmetric, Irreflexive, Simplicial, Closed, Within}
use Rattle.elimination.specs.Elimination.{after, filled}
use Rattle.elimination.specs.Graphs.{Graph, Sub}
use Rattle.elimination.specs.Orders.{In, Distinct}

pub after-old : (C : Graph) (v a b : ℕ) → a ≢ v → b ≢ v → C a b ≡ true → after C v a b ≡ true
after-old C v a b m n h = grind (arith, nat_tests)

pub after-new : (C : Graph) (v a b : ℕ) → a ≢ v → b ≢ v → a ≢ b → C v a ≡ true → C v b ≡ true → after C v a b ≡ true
after-new C v a b m n k h g = grind (arith, nat_tests)

pub after-cases : (C : Graph) (v a b : ℕ) → after C v a b ≡ true → (a ≢ v) × (b ≢ v) × ((C a b ≡ true) ⊎ ((C v a ≡ true) × (C v b ≡ true) × (a ≢ b)))
after-cases C v a b h = grind (arith, nat_tests)

pub after-symmetric : (C : Graph) (v : ℕ) → Symmetric C → Symmetric (after C v)
after-symmetric C v s a b = grind (arith, nat_tests, s)

pub after-irreflexive : (C : Graph) (v : ℕ) → Irreflexive C → Irreflexive (after C v)
after-irreflexive C v s a = grind (arith, nat_tests, s)

-- T1, first part: it holds the graph
pub filled-holds : (C : Graph) (xs : List ℕ) → Sub C (filled C xs)
filled-holds C [] a b h = h
filled-holds C (v ∷ vs) a b h = or_left (C a b) (filled (after C v) vs a b) h

pub left_in : (v a : ℕ) (vs : List ℕ) → a ≢ v → In a (v ∷ vs) → In a vs
left_in v a vs n (inl q) = absurd (n q)
left_in v a vs n (inr m) = m

pub not-head : (v a : ℕ) (vs : List ℕ) → Distinct (v ∷ vs) → In a vs → a ≢ v
not-head v a vs d i q = d.0 (rw q at i)

pub within-after : (C : Graph) (v : ℕ) (vs : List ℕ) → Within C (v ∷ vs) → Within (after C v) vs
within-after C v vs w a b h = go (after-cases C v a b h)
  where
    go : (a ≢ v) × (b ≢ v) × ((C a b ≡ true) ⊎ ((C v a ≡ true) × (C v b ≡ true) × (a ≢ b))) → In a vs × In b vs
    go t = ⊎_elim (λ (h : C a b ≡ true). (left_in v a vs t.0 (w a b h).0, left_in v b vs t.1 (w a b h).1)) (λ (h : (C v a ≡ true) × (C v b ≡ true) × (a ≢ b)). (left_in v a vs t.0 (w v a h.0).1, left_in v b vs t.1 (w v b h.1).1)) t.2

pub within-filled : (C : Graph) (xs : List ℕ) → Within C xs → Within (filled C xs) xs
within-filled C [] w a b h = w a b h
within-filled C (v ∷ vs) w a b h = ⊎_elim (λ (t : C a b ≡ true). w a b t) (λ (t : filled (after C v) vs a b ≡ true). let i = within-filled (after C v) vs (within-after C v vs w) a b t in (inr i.0, inr i.1)) (or_cases (C a b) (filled (after C v) vs a b) h)

-- closed goes over to a graph with the same pairs of members
closed-like : (G H : Graph) (xs : List ℕ) → ((a b : ℕ) → In a xs → In b xs → H a b ≡ true → G a b ≡ true) → Sub G H → Closed G xs → Closed H xs
closed-like G H [] to from c = tt
closed-like G H (x ∷ xs) to from c = (λ a b ia ib n ha hb. from a b (c.0 a b ia ib n (to x a (inl refl) (inr ia) ha) (to x b (inl refl) (inr ib) hb)), closed-like G H xs (λ a b ia ib h. to a b (inr ia) (inr ib) h) from c.1)

-- T1, second part: it is closed under the order
pub filled-closed : (C : Graph) (xs : List ℕ) → Within C xs → Distinct xs → Closed (filled C xs) xs
filled-closed C [] w d = tt
filled-closed C (v ∷ vs) w d = (head, closed-like F (filled C (v ∷ vs)) vs to (λ a b h. or_right (C a b) (F a b) h) (filled-closed (after C v) vs (within-after C v vs w) d.1))
  where
    F : Graph
    F = filled (after C v) vs

    first : (a : ℕ) → filled C (v ∷ vs) v a ≡ true → C v a ≡ true
    first a h = ⊎_elim (λ (t : C v a ≡ true). t) (λ (t : F v a ≡ true). absurd (d.0 (within-filled (after C v) vs (within-after C v vs w) v a t).0)) (or_cases (C v a) (F v a) h)

    head : Simplicial (filled C (v ∷ vs)) v vs
    head a b ia ib n ha hb = or_right (C a b) (F a b) (filled-holds (after C v) vs a b (after-new C v a b (not-head v a vs d ia) (not-head v b vs d ib) n (first a ha) (first b hb)))

    to : (a b : ℕ) → In a vs → In b vs → filled C (v ∷ vs) a b ≡ true → F a b ≡ true
    to a b ia ib h = ⊎_elim (λ (t : C a b ≡ true). filled-holds (after C v) vs a b (after-old C v a b (not-head v a vs d ia) (not-head v b vs d ib) t)) (λ (t : F a b ≡ true). t) (or_cases (C a b) (F a b) h)

-- T1, third part: it is the least such graph
pub filled-least : (C H : Graph) (xs : List ℕ) → Within C xs → Sub C H → Closed H xs → Sub (filled C xs) H
filled-least C H [] w s c a b h = s a b h
filled-least C H (v ∷ vs) w s c a b h = ⊎_elim (s a b) (filled-least (after C v) H vs (within-after C v vs w) more c.1 a b) (or_cases (C a b) (filled (after C v) vs a b) h)
  where
    more : Sub (after C v) H
    more a b h = let t = after-cases C v a b h in ⊎_elim (s a b) (λ (g : (C v a ≡ true) × (C v b ≡ true) × (a ≢ b)). c.0 a b (left_in v a vs t.0 (w v a g.0).1) (left_in v b vs t.1 (w v b g.1).1) g.2 (s v a g.0) (s v b g.1)) t.2

pub filled-symmetric : (C : Graph) (xs : List ℕ) → Symmetric C → Symmetric (filled C xs)
filled-symmetric C [] s a b = s a b
filled-symmetric C (v ∷ vs) s a b = ap₂ ◌||◌ (s a b) (filled-symmetric (after C v) vs (after-symmetric C v s) a b)

pub filled-irreflexive : (C : Graph) (xs : List ℕ) → Irreflexive C → Irreflexive (filled C xs)
filled-irreflexive C [] s a = s a
filled-irreflexive C (v ∷ vs) s a = ap₂ ◌||◌ (s a) (filled-irreflexive (after C v) vs (after-irreflexive C v s) a)
