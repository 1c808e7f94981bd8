-- Members of a list, a test for them, and what a filter keeps.
use Rattle.std.proofs.Common.{◌≡◌, ℕ, ◌<◌, ◌≤◌, Bool, true, false, cond, not, ◌||◌, eqb, ◌≢◌, List, [], ◌∷◌, ◌++◌, length, filter, sym, refl, ap, ◌∙◌, inl, inr, ⊎_elim, arith}
use Rattle.std.proofs.lemmas.Bool.{both_ways, false≢true, eqb-true, eq-eqb, or_cases, or_left, or_right}
use Rattle.std.proofs.lemmas.Bool.Decides.{nat_tests}
use Rattle.elimination.proofs.Relations.{Simplicial, Closed}
use Rattle.elimination.specs.Graphs.{Graph}
use Rattle.elimination.specs.Orders.{In, Distinct, member}

pub in-member : (a : ℕ) (xs : List ℕ) → member a xs ≡ true → In a xs
in-member a [] e = absurd (false≢true e)
in-member a (x ∷ xs) e = ⊎_elim (λ (t : eqb a x ≡ true). inl (eqb-true a x t)) (λ (t : member a xs ≡ true). inr (in-member a xs t)) (or_cases (eqb a x) (member a xs) e)

pub member-in : (a : ℕ) (xs : List ℕ) → In a xs → member a xs ≡ true
member-in a [] i = absurd i
member-in a (x ∷ xs) (inl q) = or_left (eqb a x) (member a xs) (eq-eqb a x q)
member-in a (x ∷ xs) (inr m) = or_right (eqb a x) (member a xs) (member-in a xs m)

pub member_more : (a x : ℕ) (xs : List ℕ) → member a (xs ++ x ∷ []) ≡ (member a xs || eqb a x)
member_more a x [] = grind arith
member_more a x (y ∷ ys) = ap (λ (b : Bool). eqb a y || b) (member_more a x ys) ∙ grind arith

module _ (p : ℕ → Bool) where
  pub in_kept : (a : ℕ) (xs : List ℕ) → In a xs → p a ≡ true → In a (filter p xs)
  in_kept a [] i e = i
  in_kept a (x ∷ xs) i e = go (p x) refl i (λ m. in_kept a xs m e)
    where
      go : (b : Bool) → p x ≡ b → In a (x ∷ xs) → (In a xs → In a (filter p xs)) → In a (cond b (x ∷ filter p xs) (filter p xs))
      go true t (inl q) ih = inl q
      go true t (inr m) ih = inr (ih m)
      go false t (inl q) ih = absurd (both_ways (p x) t (ap p (sym q) ∙ e))
      go false t (inr m) ih = ih m

  pub kept_in : (a : ℕ) (xs : List ℕ) → In a (filter p xs) → In a xs × (p a ≡ true)
  kept_in a [] i = absurd i
  kept_in a (x ∷ xs) i = go (p x) refl i (kept_in a xs)
    where
      go : (b : Bool) → p x ≡ b → In a (cond b (x ∷ filter p xs) (filter p xs)) → (In a (filter p xs) → In a xs × (p a ≡ true)) → In a (x ∷ xs) × (p a ≡ true)
      go true t (inl q) ih = (inl q, ap p q ∙ t)
      go true t (inr m) ih = (inr (ih m).0, (ih m).1)
      go false t m ih = (inr (ih m).0, (ih m).1)

  pub simplicial-kept : (H : Graph) (x : ℕ) (xs : List ℕ) → Simplicial H x xs → Simplicial H x (filter p xs)
  simplicial-kept H x xs s a b ia ib n ha hb = s a b (kept_in a xs ia).0 (kept_in b xs ib).0 n ha hb

  pub closed-kept : (H : Graph) (xs : List ℕ) → Closed H xs → Closed H (filter p xs)
  closed-kept H [] c = tt
  closed-kept H (x ∷ xs) c = go (p x) (closed-kept H xs c.1)
    where
      go : (b : Bool) → Closed H (filter p xs) → Closed H (cond b (x ∷ filter p xs) (filter p xs))
      go true ih = (simplicial-kept H x xs c.0, ih)
      go false ih = ih

  pub distinct-kept : (xs : List ℕ) → Distinct xs → Distinct (filter p xs)
  distinct-kept [] d = tt
  distinct-kept (x ∷ xs) d = go (p x) (distinct-kept xs d.1)
    where
      go : (b : Bool) → Distinct (filter p xs) → Distinct (cond b (x ∷ filter p xs) (filter p xs))
      go true ih = (λ i. d.0 (kept_in x xs i).0, ih)
      go false ih = ih

module _ (p : ℕ → Bool) where
  pub length-kept : (xs : List ℕ) → length (filter p xs) ≤ length xs
  length-kept [] = omega arith
  length-kept (x ∷ xs) = go (p x) (length-kept xs)
    where
      go : (b : Bool) → length (filter p xs) ≤ length xs → length (cond b (x ∷ filter p xs) (filter p xs)) ≤ length (x ∷ xs)
      go true ih = omega arith
      go false ih = omega arith

  pub kept-fewer : (y : ℕ) (xs : List ℕ) → In y xs → p y ≡ false → length (filter p xs) < length xs
  kept-fewer y [] i e = absurd i
  kept-fewer y (x ∷ xs) i e = go (p x) refl i (length-kept xs) (λ m. kept-fewer y xs m e)
    where
      go : (b : Bool) → p x ≡ b → In y (x ∷ xs) → length (filter p xs) ≤ length xs → (In y xs → length (filter p xs) < length xs) → length (cond b (x ∷ filter p xs) (filter p xs)) < length (x ∷ xs)
      go false t i le ih = omega arith
      go true t (inl q) le ih = absurd (both_ways (p y) e (ap p q ∙ t))
      go true t (inr m) le ih = omega (arith, ih m)

-- other than y
abbrev pub but : ℕ → ℕ → Bool
but y a = not (eqb a y)

pub but-self : (y : ℕ) → but y y ≡ false
but-self y = grind (arith, nat_tests)

pub but-other : (y a : ℕ) → a ≢ y → but y a ≡ true
but-other y a m = grind (arith, nat_tests)

pub but-apart : (y a : ℕ) → but y a ≡ true → a ≢ y
but-apart y a h = grind (arith, nat_tests)
