-- An order that ends in a given station and closes the same graph.
use Rattle.std.proofs.Common.{◌≡◌, ℕ, zero, suc, ◌≤◌, eqb, ◌≢◌, ◌⊎◌, List, [], ◌∷◌, length, Some, filter, sym, refl, ◌∙◌, inl, inr, ⊎_elim, arith}
use Rattle.std.proofs.lemmas.Bool.{cases_eq, eqb-true, eqb-false}
use Rattle.elimination.specs.Graphs.{Graph}
use Rattle.elimination.specs.Orders.{In, Distinct, last_of}
use Rattle.elimination.proofs.Relations.{Symmetric, Irreflexive, Closed, Clique}
use Rattle.elimination.proofs.Members.{but, but-self, but-other, but-apart, in_kept, kept_in, closed-kept, distinct-kept, kept-fewer}
use Rattle.elimination.proofs.EndVertex.{Fails, Passes, some-or-all, End, end-vertex}

-- an order of the members of xs that closes H and ends in s
abbrev pub EndsIn : Graph → ℕ → List ℕ → Type 0
EndsIn H s xs = (zs : List ℕ) × Closed H zs × Distinct zs × ((a : ℕ) → In a xs → In a zs) × ((a : ℕ) → In a zs → In a xs) × (last_of zs ≡ Some s)

last_cons : (y : ℕ) (zs : List ℕ) (s : ℕ) → last_of zs ≡ Some s → last_of (y ∷ zs) ≡ Some s
last_cons y [] s e = absurd (let z : ◌≡◌ {A = ℕ} 0 1 = cc in let no : ⊥ = omega arith in no)
last_cons y (x ∷ zs) s e = e

module _ (H : Graph) (sy : Symmetric H) (ir : Irreflexive H) (s : ℕ) where
  alike : (xs : List ℕ) → Clique H (λ a. eqb a s) xs
  alike xs a b _ _ ne p q = absurd (ne (eqb-true a s p ∙ sym (eqb-true b s q)))

  turn : (n : ℕ) (xs : List ℕ) → length xs ≤ n → Closed H xs → Distinct xs → In s xs → EndsIn H s xs
  turn zero xs le c d i = absurd (nonempty xs i le)
    where
      nonempty : (xs : List ℕ) → In s xs → length xs ≤ 0 → ⊥
      nonempty [] i le = i
      nonempty (x ∷ xs) i le = omega arith
  turn (suc n) xs le c d i = step (some-or-all (λ a. eqb a s) xs) (turn n)
    where
      step : Fails (λ a. eqb a s) xs ⊎ Passes (λ a. eqb a s) xs
          → ((xs : List ℕ) → length xs ≤ n → Closed H xs → Distinct xs → In s xs → EndsIn H s xs)
          → EndsIn H s xs
      step (inr all) ih = (s ∷ [], ((λ a b i. absurd i), tt), ((λ i. i), tt), (λ a j. inl (eqb-true a s (all a j))), (λ a j. ⊎_elim (λ (q : a ≡ s). rw q i) (λ (z : ⊥). absurd z) j), refl)
      step (inl f) ih = (y ∷ t.0, (λ a b ia ib m. e.3 a b (back a ia).0 (back b ib).0 m, t.1), (λ j. (back y j).1 refl, t.2), into, out, last_cons y t.0 s t.5)
        where
          e : End H (λ a. eqb a s) xs
          e = end-vertex H sy ir xs c (λ a. eqb a s) (alike xs) f

          y : ℕ
          y = e.0

          t : EndsIn H s (filter (but y) xs)
          t = ih (filter (but y) xs) (omega (arith, kept-fewer (but y) y xs e.1 (but-self y))) (closed-kept (but y) H xs c) (distinct-kept (but y) xs d)
              (in_kept (but y) s xs i (but-other y s (λ q. eqb-false y s e.2 (sym q))))

          back : (a : ℕ) → In a t.0 → In a xs × (a ≢ y)
          back a j = let k = kept_in (but y) a xs (t.4 a j) in (k.0, but-apart y a k.1)

          into : (a : ℕ) → In a xs → In a (y ∷ t.0)
          into a j = ⊎_elim (λ (q : a ≡ y). inl q) (λ (q : a ≡ y → ⊥). inr (t.3 a (in_kept (but y) a xs j (but-other y a q)))) (cases_eq a y)

          out : (a : ℕ) → In a (y ∷ t.0) → In a xs
          out a (inl q) = rw q e.1
          out a (inr m) = (back a m).0

  pub ends-in : (xs : List ℕ) → Closed H xs → Distinct xs → In s xs → EndsIn H s xs
  ends-in xs = turn (length xs) xs (omega arith)
