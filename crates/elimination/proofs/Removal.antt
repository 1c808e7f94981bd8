-- A closed graph without a spare pair is closed under some order.
use Rattle.std.proofs.Common.{◌≡◌, ℕ, zero, suc, ◌≤◌, Bool, true, false, ◌&&◌, ◌||◌, eqb, ◌≢◌, ◌⊎◌, List, [], ◌∷◌, length, filter, sym, refl, ap, ◌∙◌, inl, inr, ⊎_elim, arith}
use Rattle.std.proofs.lemmas.Bool.{both_ways, cases_eq}
use Rattle.std.proofs.lemmas.Bool.Decides.{nat_tests}
use Rattle.elimination.proofs.Relations.{Symmetric, Irreflexive, Simplicial, Closed, Clique, Spare}
use Rattle.elimination.specs.Graphs.{Graph, Sub, without}
use Rattle.elimination.specs.Orders.{In, Distinct}
use Rattle.elimination.proofs.Members.{but, but-self, but-other, but-apart, in_kept, kept_in, closed-kept, distinct-kept, kept-fewer}
use Rattle.elimination.proofs.EndVertex.{Fails, Passes, some-or-all, End, end-vertex}

without-some : (H : Graph) (u v a b : ℕ) → H a b ≡ true → (a ≡ u → b ≡ v → ⊥) → (a ≡ v → b ≡ u → ⊥) → without H u v a b ≡ true
without-some H u v a b h m n = grind (arith, nat_tests)

pub without_sub : (H : Graph) (u v : ℕ) → Sub (without H u v) H
without_sub H u v a b h = grind (arith, nat_tests)

without-pair : (H : Graph) (u v : ℕ) → without H u v u v ≡ false
without-pair H u v = grind (arith, nat_tests)

pub without-symmetric : (H : Graph) (u v : ℕ) → Symmetric H → Symmetric (without H u v)
without-symmetric H u v s a b = grind (arith, nat_tests, s)

pub without-irreflexive : (H : Graph) (u v : ℕ) → Irreflexive H → Irreflexive (without H u v)
without-irreflexive H u v s a = grind (arith, nat_tests, s)

-- any list of pairwise neighbours is closed
pub clique-closed : (G : Graph) (xs : List ℕ) → ((a b : ℕ) → In a xs → In b xs → a ≢ b → G a b ≡ true) → Closed G xs
clique-closed G [] f = tt
clique-closed G (x ∷ xs) f = (λ a b ia ib n _ _. f a b (inr ia) (inr ib) n, clique-closed G xs (λ a b ia ib n. f a b (inr ia) (inr ib) n))

-- an order of the members of xs under which G is closed
abbrev pub Orders : Graph → List ℕ → Type 0
Orders G xs = (zs : List ℕ) × Closed G zs × Distinct zs × ((a : ℕ) → In a xs → In a zs) × ((a : ℕ) → In a zs → In a xs)

-- u, v and their common neighbours
abbrev core : Graph → ℕ → ℕ → ℕ → Bool
core H u v a = eqb a u || (eqb a v || (H u a && H v a))

core-cases : (H : Graph) (u v a : ℕ) → core H u v a ≡ true → (a ≡ u) ⊎ ((a ≡ v) ⊎ ((H u a ≡ true) × (H v a ≡ true)))
core-cases H u v a e = grind (arith, nat_tests)

core-not : (H : Graph) (u v a : ℕ) → core H u v a ≡ false → (a ≢ u) × (a ≢ v) × (H u a ≡ true → H v a ≡ true → ⊥)
core-not H u v a e = grind (arith, nat_tests)

module _ (H : Graph) (sy : Symmetric H) (ir : Irreflexive H) (u v : ℕ) (uv : H u v ≡ true) where
  core-clique : (xs : List ℕ) → Spare H u v xs → Clique H (core H u v) xs
  core-clique xs sp a b ia ib n ka kb = go (core-cases H u v a ka) (core-cases H u v b kb)
    where
      go : (a ≡ u) ⊎ ((a ≡ v) ⊎ ((H u a ≡ true) × (H v a ≡ true))) → (b ≡ u) ⊎ ((b ≡ v) ⊎ ((H u b ≡ true) × (H v b ≡ true))) → H a b ≡ true
      go (inl p) (inl q) = absurd (n (cc))
      go (inl p) (inr (inl q)) = cc
      go (inl p) (inr (inr t)) = cc
      go (inr (inl p)) (inl q) = cc (sy a b)
      go (inr (inl p)) (inr (inl q)) = absurd (n (cc))
      go (inr (inl p)) (inr (inr t)) = cc
      go (inr (inr s)) (inl q) = cc (sy a b)
      go (inr (inr s)) (inr (inl q)) = cc (sy a b)
      go (inr (inr s)) (inr (inr t)) = sp a b ia ib n s.0 s.1 t.0 t.1

  -- all members in the core: u and v first
  base : (xs : List ℕ) → Distinct xs → Spare H u v xs → In u xs → In v xs → Passes (core H u v) xs → Orders (without H u v) xs
  base xs d sp iu iv all = (u ∷ v ∷ ks, (λ a b ia ib n ha hb. pairs a b (past a ia ha) (past b ib hb) n, (λ a b ia ib n _ _. pairs a b ia ib n, clique-closed G ks pairs)), (first, (λ i. (rest v i).2 refl, distinct-kept others xs d)), into, out)
    where
      G : Graph
      G = without H u v

      others : ℕ → Bool
      others a = but u a && but v a

      ks : List ℕ
      ks = filter others xs

      apart : (a : ℕ) → others a ≡ true → (a ≢ u) × (a ≢ v)
      apart a e = grind (arith, nat_tests)

      cases : (a : ℕ) → (a ≡ u) ⊎ ((a ≡ v) ⊎ (others a ≡ true))
      cases a = grind (arith, nat_tests)

      rest : (a : ℕ) → In a ks → In a xs × (a ≢ u) × (a ≢ v)
      rest a i = let k = kept_in others a xs i in let t = apart a k.1 in (k.0, t.0, t.1)

      common : (a : ℕ) → In a ks → (H u a ≡ true) × (H v a ≡ true)
      common a i = let r = rest a i in let t = core-cases H u v a (all a r.0) in grind arith

      pairs : (a b : ℕ) → In a ks → In b ks → a ≢ b → G a b ≡ true
      pairs a b ia ib n = without-some H u v a b (sp a b (rest a ia).0 (rest b ib).0 n (common a ia).0 (common a ia).1 (common b ib).0 (common b ib).1) (λ q _. (rest a ia).1 q) (λ q _. (rest a ia).2 q)

      past : (a : ℕ) → In a (v ∷ ks) → G u a ≡ true → In a ks
      past a (inl q) h = absurd (both_ways (G u v) (without-pair H u v) (ap (G u) (sym q) ∙ h))
      past a (inr m) h = m

      first : In u (v ∷ ks) → ⊥
      first (inl q) = both_ways (H u u) (ir u) (ap (H u) q ∙ uv)
      first (inr m) = (rest u m).1 refl

      into : (a : ℕ) → In a xs → In a (u ∷ v ∷ ks)
      into a i = ⊎_elim (λ (q : a ≡ u). inl q) (λ (t : (a ≡ v) ⊎ (others a ≡ true)). inr (⊎_elim (λ (q : a ≡ v). inl q) (λ (e : others a ≡ true). inr (in_kept others a xs i e)) t)) (cases a)

      out : (a : ℕ) → In a (u ∷ v ∷ ks) → In a xs
      out a (inl q) = rw q iu
      out a (inr (inl q)) = rw q iv
      out a (inr (inr m)) = (rest a m).0

  -- y outside the core is simplicial without the pair too
  still : (y : ℕ) (xs : List ℕ) → core H u v y ≡ false → Simplicial H y xs → Simplicial (without H u v) y xs
  still y xs e s a b ia ib n ha hb =
      let p : H y a ≡ true = without_sub H u v y a ha in
      let q : H y b ≡ true = without_sub H u v y b hb in
      without-some H u v a b (s a b ia ib n p q)
      (λ i j. (core-not H u v y e).2 (cc (sy u y)) (cc (sy v y)))
      (λ i j. (core-not H u v y e).2 (cc (sy u y)) (cc (sy v y)))

  peel : (n : ℕ) (xs : List ℕ) → length xs ≤ n → Closed H xs → Distinct xs → Spare H u v xs → In u xs → In v xs → Orders (without H u v) xs
  peel zero xs le c d sp iu iv = absurd (nonempty xs iu le)
    where
      nonempty : (xs : List ℕ) → In u xs → length xs ≤ 0 → ⊥
      nonempty [] i le = i
      nonempty (x ∷ xs) i le = omega arith
  peel (suc n) xs le c d sp iu iv = step (some-or-all (core H u v) xs) (peel n)
    where
      step : Fails (core H u v) xs ⊎ Passes (core H u v) xs
          → ((xs : List ℕ) → length xs ≤ n → Closed H xs → Distinct xs → Spare H u v xs → In u xs → In v xs → Orders (without H u v) xs)
          → Orders (without H u v) xs
      step (inr all) ih = base xs d sp iu iv all
      step (inl f) ih = (y ∷ t.0, (λ a b ia ib m. still y xs e.2 e.3 a b (back a ia).0 (back b ib).0 m, t.1), (λ i. (back y i).1 refl, t.2), into, out)
        where
          e : End H (core H u v) xs
          e = end-vertex H sy ir xs c (core H u v) (core-clique xs sp) f

          y : ℕ
          y = e.0

          less : ℕ → Bool
          less = but y

          ends : (y ≢ u) × (y ≢ v) × (H u y ≡ true → H v y ≡ true → ⊥)
          ends = core-not H u v y e.2

          from : (a : ℕ) → In a (filter less xs) → In a xs
          from a i = (kept_in less a xs i).0

          t : Orders (without H u v) (filter less xs)
          t = ih (filter less xs) (omega (arith, kept-fewer less y xs e.1 (but-self y))) (closed-kept less H xs c) (distinct-kept less xs d)
              (λ a b ia ib. sp a b (from a ia) (from b ib))
              (in_kept less u xs iu (but-other y u (λ q. ends.0 (sym q)))) (in_kept less v xs iv (but-other y v (λ q. ends.1 (sym q))))

          back : (a : ℕ) → In a t.0 → In a xs × (a ≢ y)
          back a i = let k = kept_in less a xs (t.4 a i) in (k.0, but-apart y a k.1)

          into : (a : ℕ) → In a xs → In a (y ∷ t.0)
          into a i = ⊎_elim (λ (q : a ≡ y). inl q) (λ (q : a ≡ y → ⊥). inr (t.3 a (in_kept less a xs i (but-other y a q)))) (cases_eq a y)

          out : (a : ℕ) → In a (y ∷ t.0) → In a xs
          out a (inl q) = rw q e.1
          out a (inr m) = (back a m).0

  -- T4: H without the spare pair is closed under some order of the same members
  pub removal : (xs : List ℕ) → Closed H xs → Distinct xs → Spare H u v xs → In u xs → In v xs → Orders (without H u v) xs
  removal xs = peel (length xs) xs (omega arith)
