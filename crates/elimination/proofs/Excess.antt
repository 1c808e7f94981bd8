-- A graph that is closed under an order, and has more pairs than another such, has a spare pair that the other lacks.
use Rattle.std.proofs.Common.{◌≡◌, ℕ, Bool, true, false, not, ◌&&◌, ◌||◌, ◌⊎◌, List, [], ◌∷◌, filter, refl, inl, inr, ⊎_elim}
use Rattle.std.proofs.lemmas.Bool.{both_ways, and_parts, and_from, or_cases, or_parts, not-true, not-false}
use Rattle.elimination.proofs.Relations.{Symmetric, Irreflexive, Simplicial, Closed, Clique, Spare}
use Rattle.elimination.specs.Graphs.{Graph, Sub}
use Rattle.elimination.specs.Orders.{In, member}
use Rattle.elimination.proofs.Members.{in-member, member-in, in_kept, kept_in, closed-kept}
use Rattle.elimination.proofs.EndVertex.{Fails, Passes, some-or-all, End, own, end-vertex}

-- a pair that H has and G lacks, spare in H
abbrev pub Excess : Graph → Graph → List ℕ → Type 0
Excess G H ys = (u v : ℕ) × In u ys × In v ys × (H u v ≡ true) × (G u v ≡ false) × Spare H u v ys

-- what H has at x, G has
abbrev agree : Graph → Graph → ℕ → ℕ → Bool
agree G H x a = not (H x a) || G x a

module _ (G H : Graph) (gs : Symmetric G) (sy : Symmetric H) (ir : Irreflexive H) (sub : Sub G H) (xs : List ℕ) (hc : Closed H xs) where
  differ : (x : ℕ) (rest : List ℕ) → ((a : ℕ) → In a (x ∷ rest) → In a xs) → Simplicial G x rest → Fails (agree G H x) rest → Excess G H (x ∷ rest)
  differ x rest within s w = (x, y, inl refl, inr (out y e.1).0, (out y e.1).1, e.2, λ a b ia ib n ha ka hb kb. e.3 a b (into' a ia ha) (into' b ib hb) n ka kb)
    where
      near : ℕ → Bool
      near m = H x m && member m rest

      zs : List ℕ
      zs = filter near xs

      into : (a : ℕ) → In a rest → H x a ≡ true → In a zs
      into a i h = in_kept near a xs (within a (inr i)) (and_from (H x a) (member a rest) h (member-in a rest i))

      into' : (a : ℕ) → In a (x ∷ rest) → H x a ≡ true → In a zs
      into' a i h = into a (own H sy ir x a rest i h) h

      out : (a : ℕ) → In a zs → In a rest × (H x a ≡ true)
      out a i = let t = and_parts (H x a) (member a rest) (kept_in near a xs i).1 in (in-member a rest t.1, t.0)

      clique : Clique H (G x) zs
      clique a b ia ib n ka kb = sub a b (s a b (out a ia).0 (out b ib).0 n ka kb)

      lacks : (not (H x w.0) ≡ false) × (G x w.0 ≡ false)
      lacks = or_parts (not (H x w.0)) (G x w.0) w.2

      e : End H (G x) zs
      e = end-vertex H sy ir zs (closed-kept near H xs hc) (G x) clique (w.0, into w.0 w.1 (not-false (H x w.0) lacks.0), lacks.1)

      y : ℕ
      y = e.0

  keep : (x : ℕ) (rest : List ℕ) → Passes (agree G H x) rest → (a : ℕ) → In a rest → H x a ≡ true → G x a ≡ true
  keep x rest f a i h = ⊎_elim (λ (t : not (H x a) ≡ true). absurd (both_ways (H x a) (not-true (H x a) t) h)) (λ (t : G x a ≡ true). t) (or_cases (not (H x a)) (G x a) (f a i))

  pub excess : (ys : List ℕ) → ((a : ℕ) → In a ys → In a xs) → Closed G ys → (u v : ℕ) → In u ys → In v ys → H u v ≡ true → G u v ≡ false → Excess G H ys
  excess [] within c u v iu iv h g = absurd iu
  excess (x ∷ rest) within c u v iu iv h g = step (some-or-all (agree G H x) rest) (excess rest (λ a i. within a (inr i)) c.1 u v)
    where
      places : Passes (agree G H x) rest → In u (x ∷ rest) → In v (x ∷ rest) → In u rest × In v rest
      places f (inl q) iv = let e : H x v ≡ true = cc in absurd (both_ways (G u v) g (cc (keep x rest f v (own H sy ir x v rest iv e) e)))
      places f (inr m) (inl q) = let e : H x u ≡ true = cc (sy x u) in absurd (both_ways (G u v) g (cc (keep x rest f u m e, gs u v)))
      places f (inr m) (inr k) = (m, k)

      lift : Passes (agree G H x) rest → Excess G H rest → Excess G H (x ∷ rest)
      lift f t = (a, b, inr t.2, inr t.3, t.4, t.5, λ c d ic id n ac bc ad bd. t.6 c d (later c ic ac bc) (later d id ad bd) n ac bc ad bd)
        where
          a : ℕ
          a = t.0

          b : ℕ
          b = t.1

          later : (d : ℕ) → In d (x ∷ rest) → H a d ≡ true → H b d ≡ true → In d rest
          later d (inr m) ha hb = m
          later d (inl q) ha hb = absurd (both_ways (G a b) t.5 (c.0 a b t.2 t.3 (λ r. both_ways (H a a) (ir a) (cc t.4)) (keep x rest f a t.2 (cc (sy x a))) (keep x rest f b t.3 (cc (sy x b)))))

      step : Fails (agree G H x) rest ⊎ Passes (agree G H x) rest → (In u rest → In v rest → H u v ≡ true → G u v ≡ false → Excess G H rest) → Excess G H (x ∷ rest)
      step (inl w) ih = differ x rest within c.0 w
      step (inr f) ih = let p = places f iu iv in lift f (ih p.0 p.1 h g)
