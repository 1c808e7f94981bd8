use Rattle.std.proofs.Common.{◌≡◌, ℕ, Bool, true, false, ◌||◌, eqb, ◌≢◌, ◌⊎◌, List, [], ◌∷◌, sym, refl, ap, ◌∙◌, inl, inr, ⊎_elim}
use Rattle.std.proofs.lemmas.Bool.{both_ways, cases_Bool, eqb-true, eqb-false, eq-eqb, or_cases, or_parts, or_left}
use Rattle.elimination.proofs.Relations.{Symmetric, Irreflexive, Simplicial, Closed, Clique}
use Rattle.elimination.specs.Graphs.{Graph}
use Rattle.elimination.specs.Orders.{In}

abbrev pub Fails : (ℕ → Bool) → List ℕ → Type 0
Fails p xs = (w : ℕ) × In w xs × (p w ≡ false)

abbrev pub Passes : (ℕ → Bool) → List ℕ → Type 0
Passes p xs = (w : ℕ) → In w xs → p w ≡ true

-- some member fails the test, or all pass
pub some-or-all : (p : ℕ → Bool) (xs : List ℕ) → Fails p xs ⊎ Passes p xs
some-or-all p [] = inr (λ w i. absurd i)
some-or-all p (x ∷ xs) = go (p x) refl (some-or-all p xs)
  where
    go : (b : Bool) → p x ≡ b → Fails p xs ⊎ Passes p xs → Fails p (x ∷ xs) ⊎ Passes p (x ∷ xs)
    go false e r = inl (x, inl refl, e)
    go true e (inl t) = inl (t.0, inr t.1, t.2)
    go true e (inr f) = inr (λ w i. ⊎_elim (λ (q : w ≡ x). ap p q ∙ e) (f w) i)

-- a member outside K, simplicial in the list
abbrev pub End : Graph → (ℕ → Bool) → List ℕ → Type 0
End H K xs = (y : ℕ) × In y xs × (K y ≡ false) × Simplicial H y xs

-- x with its neighbours
abbrev around : Graph → ℕ → ℕ → Bool
around H x a = eqb a x || H x a

module _ (H : Graph) (sy : Symmetric H) (ir : Irreflexive H) where
  near : (x a : ℕ) (rest : List ℕ) → In a (x ∷ rest) → around H x a ≡ true → (a ≡ x) ⊎ (In a rest × (H x a ≡ true))
  near x a rest (inl q) e = inl q
  near x a rest (inr m) e = ⊎_elim (λ (t : eqb a x ≡ true). inl (eqb-true a x t)) (λ (t : H x a ≡ true). inr (m, t)) (or_cases (eqb a x) (H x a) e)

  joined : (x a b : ℕ) (rest : List ℕ) → Simplicial H x rest
      → (a ≡ x) ⊎ (In a rest × (H x a ≡ true)) → (b ≡ x) ⊎ (In b rest × (H x b ≡ true)) → a ≢ b → H a b ≡ true
  joined x a b rest s (inl p) (inl q) n = absurd (n (p ∙ sym q))
  joined x a b rest s (inl p) (inr t) n = cc
  joined x a b rest s (inr r) (inl q) n = cc (sy a b)
  joined x a b rest s (inr r) (inr t) n = s a b r.0 t.0 n r.1 t.1

  -- what x has for a neighbour is not x
  pub own : (x a : ℕ) (rest : List ℕ) → In a (x ∷ rest) → H x a ≡ true → In a rest
  own x a rest (inl q) h = absurd (both_ways (H x x) (ir x) (ap (H x) (sym q) ∙ h))
  own x a rest (inr m) h = m

  pub end-vertex : (xs : List ℕ) → Closed H xs → (K : ℕ → Bool) → Clique H K xs → Fails K xs → End H K xs
  end-vertex [] c K k f = absurd f.1
  end-vertex (x ∷ rest) c K k f = step (K x) refl (some-or-all (around H x) rest) (end-vertex rest c.1 (around H x) inside)
    where
      both : (a b : ℕ) → In a (x ∷ rest) → In b (x ∷ rest) → a ≢ b → around H x a ≡ true → around H x b ≡ true → H a b ≡ true
      both a b ia ib n ea eb = joined x a b rest c.0 (near x a rest ia ea) (near x b rest ib eb) n

      inside : Clique H (around H x) rest
      inside a b ia ib n ea eb = both a b (inr ia) (inr ib) n ea eb

      all : Passes (around H x) rest → (a : ℕ) → In a (x ∷ rest) → around H x a ≡ true
      all f a (inl q) = or_left (eqb a x) (H x a) (eq-eqb a x q)
      all f a (inr m) = f a m

      other : End H (around H x) rest → K x ≡ true → End H K (x ∷ rest)
      other t e = (y, inr t.1, outside, λ a b ia ib n ha hb. t.3 a b (later a ia ha) (later b ib hb) n ha hb)
        where
          y : ℕ
          y = t.0

          apart : (eqb y x ≡ false) × (H x y ≡ false)
          apart = or_parts (eqb y x) (H x y) t.2

          outside : K y ≡ false
          outside = ⊎_elim (λ (h : K y ≡ true). absurd (both_ways (H x y) apart.1 (k x y (inl refl) (inr t.1) (λ q. eqb-false y x apart.0 (sym q)) e h))) (λ (h : K y ≡ false). h) (cases_Bool (K y))

          later : (a : ℕ) → In a (x ∷ rest) → H y a ≡ true → In a rest
          later a (inl q) h = absurd (both_ways (H x y) apart.1 (cc (sy x y)))
          later a (inr m) h = m

      step : (b : Bool) → K x ≡ b → Fails (around H x) rest ⊎ Passes (around H x) rest → (Fails (around H x) rest → End H (around H x) rest) → End H K (x ∷ rest)
      step false e s ih = (x, inl refl, e, λ a b ia ib n ha hb. c.0 a b (own x a rest ia ha) (own x b rest ib hb) n ha hb)
      step true e (inl t) ih = other (ih t) e
      step true e (inr f') ih = (f.0, f.1, f.2, λ a b ia ib n _ _. both a b ia ib n (all f' a ia) (all f' b ib))
