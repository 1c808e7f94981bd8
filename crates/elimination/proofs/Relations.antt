-- The tests of specs/ as relations, which proofs work with.
use Rattle.std.proofs.Common.{◌≡◌, ℕ, zero, suc, ◌<◌, Bool, true, false, not, ◌&&◌, ◌||◌, eqb, ◌≢◌, ◌⊎◌, List, [], ◌∷◌, ◌++◌, refl, ap, ◌∙◌, inl, inr, ⊎_elim, arith}
use Rattle.std.proofs.lemmas.Bool.{and_parts, and_from, cases_eq}
use Rattle.std.proofs.lemmas.Bool.Decides.{nat_tests}
use Rattle.std.specs.List.{list_all}
pub use Rattle.elimination.specs.Graphs.{Symmetric, Irreflexive}
use Rattle.elimination.specs.Graphs.{Graph, Simple, complete, simplicial, closed, spare}
use Rattle.elimination.specs.Orders.{In, Order, up_to}

-- any two different members of the list that K holds are neighbours
abbrev pub Clique : Graph → (ℕ → Bool) → List ℕ → Type 0
Clique H K xs = (a b : ℕ) → In a xs → In b xs → a ≢ b → K a ≡ true → K b ≡ true → H a b ≡ true

abbrev pub Simplicial : Graph → ℕ → List ℕ → Type 0
Simplicial H x xs = Clique H (H x) xs

abbrev pub Closed : Graph → List ℕ → Type 0
Closed H [] = Unit {0}
Closed H (x ∷ xs) = Simplicial H x xs × Closed H xs

-- the common neighbours of u and v in the list are pairwise neighbours
abbrev pub Spare : Graph → ℕ → ℕ → List ℕ → Type 0
Spare H u v xs = (a b : ℕ) → In a xs → In b xs → a ≢ b → H u a ≡ true → H v a ≡ true → H u b ≡ true → H v b ≡ true → H a b ≡ true

-- every common neighbour of u and v but a is a neighbour of a
abbrev pub Meets : Graph → ℕ → ℕ → ℕ → Type 0
Meets G u v a = (b : ℕ) → (a ≡ b → ⊥) → G u b ≡ true → G v b ≡ true → G a b ≡ true

-- the common neighbours of u and v are pairwise neighbours
abbrev pub SpareIn : Graph → ℕ → ℕ → Type 0
SpareIn G u v = (a : ℕ) → G u a ≡ true → G v a ≡ true → Meets G u v a

-- only members of the list are neighbours
abbrev pub Within : Graph → List ℕ → Type 0
Within G xs = (a b : ℕ) → G a b ≡ true → In a xs × In b xs

-- a graph over the members of a list
pub record Plain (G : Graph) (xs : List ℕ) : Type 0 where
  pub symmetric : Symmetric G
  pub irreflexive : Irreflexive G
  pub within : Within G xs

pub plain : (n : ℕ) (G : Graph) (xs : List ℕ) → Order n xs → Simple n G → Plain G xs
plain n G xs o s = record { symmetric = s.symmetric; irreflexive = s.irreflexive; within = λ a b h. (o.all a (s.below a b h).0, o.all b (s.below a b h).1) }

pub simple : (n : ℕ) (G : Graph) (xs : List ℕ) → Order n xs → Plain G xs → Simple n G
simple n G xs o s = record { symmetric = s.symmetric; irreflexive = s.irreflexive; below = λ a b h. (o.only a (s.within a b h).0, o.only b (s.within a b h).1) }

-- ---- tests over lists

pub every_in : (p : ℕ → Bool) (xs : List ℕ) → list_all p xs ≡ true → (a : ℕ) → In a xs → p a ≡ true
every_in p [] e a i = absurd i
every_in p (x ∷ xs) e a (inl q) = ap p q ∙ (and_parts (p x) (list_all p xs) e).0
every_in p (x ∷ xs) e a (inr m) = every_in p xs (and_parts (p x) (list_all p xs) e).1 a m

pub in-every : (p : ℕ → Bool) (xs : List ℕ) → ((a : ℕ) → In a xs → p a ≡ true) → list_all p xs ≡ true
in-every p [] f = refl
in-every p (x ∷ xs) f = and_from (p x) (list_all p xs) (f x (inl refl)) (in-every p xs (λ a i. f a (inr i)))

module _ (G : Graph) (p : ℕ → Bool) (xs : List ℕ) where
  pub clique-from : complete G p xs ≡ true → Clique G p xs
  clique-from e a b ia ib n pa pb = here a b n pa pb (every_in (λ b. not (p a && (p b && not (eqb a b))) || G a b) xs (every_in (λ a. list_all (λ b. not (p a && (p b && not (eqb a b))) || G a b) xs) xs e a ia) b ib)
    where
      here : (a b : ℕ) → a ≢ b → p a ≡ true → p b ≡ true → (not (p a && (p b && not (eqb a b))) || G a b) ≡ true → G a b ≡ true
      here a b n pa pb h = grind (arith, nat_tests)

  pub clique-to : Clique G p xs → complete G p xs ≡ true
  clique-to f = in-every (λ a. list_all (λ b. not (p a && (p b && not (eqb a b))) || G a b) xs) xs (λ a ia. in-every (λ b. not (p a && (p b && not (eqb a b))) || G a b) xs (λ b ib. here a b (p a) refl (p b) refl (cases_eq a b) (f a b ia ib)))
    where
      here : (a b : ℕ) (x : Bool) → p a ≡ x → (y : Bool) → p b ≡ y → (a ≡ b) ⊎ (a ≡ b → ⊥) → (a ≢ b → p a ≡ true → p b ≡ true → G a b ≡ true) → (not (x && (y && not (eqb a b))) || G a b) ≡ true
      here a b false e y d c g = refl
      here a b true e false d c g = refl
      here a b true e true d (inl q) g = grind (arith, nat_tests)
      here a b true e true d (inr n) g = let h = g n e d in grind (arith, nat_tests)

pub closed-from : (G : Graph) (xs : List ℕ) → closed G xs ≡ true → Closed G xs
closed-from G [] e = tt
closed-from G (x ∷ xs) e = let t = and_parts (simplicial G x xs) (closed G xs) e in (clique-from G (G x) xs t.0, closed-from G xs t.1)

pub closed-to : (G : Graph) (xs : List ℕ) → Closed G xs → closed G xs ≡ true
closed-to G [] c = refl
closed-to G (x ∷ xs) c = and_from (simplicial G x xs) (closed G xs) (clique-to G (G x) xs c.0) (closed-to G xs c.1)

-- ---- the stations below n

pub in_parts : (a : ℕ) (xs ys : List ℕ) → In a (xs ++ ys) → In a xs ⊎ In a ys
in_parts a [] ys i = inr i
in_parts a (x ∷ xs) ys (inl q) = inl (inl q)
in_parts a (x ∷ xs) ys (inr m) = ⊎_elim (λ (k : In a xs). inl (inr k)) (λ (k : In a ys). inr k) (in_parts a xs ys m)

pub in_left : (a : ℕ) (xs ys : List ℕ) → In a xs → In a (xs ++ ys)
in_left a [] ys i = absurd i
in_left a (x ∷ xs) ys (inl q) = inl q
in_left a (x ∷ xs) ys (inr m) = inr (in_left a xs ys m)

pub in_right : (a : ℕ) (xs ys : List ℕ) → In a ys → In a (xs ++ ys)
in_right a [] ys i = i
in_right a (x ∷ xs) ys i = inr (in_right a xs ys i)

pub in-up_to : (n a : ℕ) → a < n → In a (up_to n)
in-up_to zero a h = absurd (let no : ⊥ = omega arith in no)
in-up_to (suc n) a h = ⊎_elim (λ (q : a ≡ n). in_right a (up_to n) (n ∷ []) (inl q)) (λ (m : a ≡ n → ⊥). in_left a (up_to n) (n ∷ []) (in-up_to n a (omega arith))) (cases_eq a n)

pub up_to-in : (n a : ℕ) → In a (up_to n) → a < n
up_to-in zero a i = absurd i
up_to-in (suc n) a i =
    ⊎_elim (λ (m : In a (up_to n)). let l = up_to-in n a m in let r : a < suc n = omega arith in r)
    (λ (m : In a (n ∷ [])). ⊎_elim (λ (q : a ≡ n). let r : a < suc n = omega arith in r) (λ (z : ⊥). absurd z) m)
    (in_parts a (up_to n) (n ∷ []) i)

-- ---- spare pairs

pub spare-from : (n : ℕ) (G : Graph) (u v : ℕ) → ((a b : ℕ) → G a b ≡ true → (a < n) × (b < n)) → spare n G u v ≡ true → SpareIn G u v
unfolding spare
spare-from n G u v below e a ua va b ne ub vb =
    clique-from G (λ a. G u a && G v a) (up_to n) e a b (in-up_to n a (below u a ua).1) (in-up_to n b (below u b ub).1) ne
    (and_from (G u a) (G v a) ua va) (and_from (G u b) (G v b) ub vb)

pub spare-to : (n : ℕ) (G : Graph) (u v : ℕ) → SpareIn G u v → spare n G u v ≡ true
unfolding spare
spare-to n G u v f =
    clique-to G (λ a. G u a && G v a) (up_to n) (λ a b ia ib ne pa pb. let p = and_parts (G u a) (G v a) pa in let q = and_parts (G u b) (G v b) pb in f a p.0 p.1 b ne q.0 q.1)
