-- Graphs by positions in an order: what they keep of the graph over stations, and how the set of pairs is filled row by row.
use Rattle.std.proofs.Common.{◌≡◌, ℕ, ◌+◌, ◌<◌, Bool, true, false, ◌&&◌, ◌||◌, eqb, ltb, List, [], ◌∷◌, ◌++◌, length, get_or, sym, ap, ◌∙◌, ⊎_elim, arith}
use mathlib.Core.Path.{fun_ext}
use Rattle.std.proofs.lemmas.Bool.{and_parts, cases_Bool, cases_eq, ltb-true}
use Rattle.std.proofs.lemmas.Bool.Decides.{nat_tests}
use Rattle.elimination.specs.Graphs.{Graph, including, union, pairs_at}
use Rattle.elimination.specs.Orders.{Distinct, member}
use Rattle.elimination.proofs.Members.{member_more}
use Rattle.elimination.proofs.Listing.{same_place}
use Rattle.elimination.proofs.Relations.{Closed}
use Rattle.plan_parts.specs.Layout as layout
use Rattle.plan_parts.specs.Reserves.{Symmetric, Irreflexive, Below, by_position}
use Rattle.plan_parts.proofs.Grounds.{closed-positions}

module _ (G : Graph) (xs : List ℕ) where
  pub position-parts : (i j : ℕ) → by_position G xs i j ≡ true → (i < length xs) × (j < length xs) × (G (get_or xs i 0) (get_or xs j 0) ≡ true)
  position-parts i j h =
      let t = and_parts (ltb i (length xs)) (ltb j (length xs) && G (get_or xs i 0) (get_or xs j 0)) h in
      let u = and_parts (ltb j (length xs)) (G (get_or xs i 0) (get_or xs j 0)) t.1 in
      (ltb-true i (length xs) t.0, ltb-true j (length xs) u.0, u.1)

  pub position_at : (i j : ℕ) → i < length xs → j < length xs → by_position G xs i j ≡ G (get_or xs i 0) (get_or xs j 0)
  position_at i j hi hj = grind (arith, nat_tests)

  pub position-symmetric : Symmetric G → Symmetric (by_position G xs)
  position-symmetric s i j = grind (arith, nat_tests, s (get_or xs i 0) (get_or xs j 0))

  pub position-irreflexive : Irreflexive G → Irreflexive (by_position G xs)
  position-irreflexive f i = grind (arith, nat_tests, f (get_or xs i 0))

  pub position-below : Below (by_position G xs) (length xs)
  position-below i j h = let t = position-parts i j h in (t.0, t.1)

  pub position-closed : Symmetric G → Distinct xs → Closed G xs → layout.Closed (by_position G xs) (length xs)
  position-closed s d c q =
      let l = position-parts q.i q.k q.left in
      let r = position-parts q.j q.k q.right in
      position_at q.i q.j q.row q.column
      ∙ closed-positions G xs d c q.i q.j q.k q.row q.column q.apart q.after_row q.after_column
      (s (get_or xs q.k 0) (get_or xs q.i 0) ∙ l.2) (s (get_or xs q.k 0) (get_or xs q.j 0) ∙ r.2)

-- ---- row by row

-- F with the pairs of i and what passes the test
abbrev pub row_to : Graph → ℕ → (ℕ → Bool) → Graph
row_to F i p x y = F x y || ((eqb x i && p y) || (eqb y i && p x))

-- what is paired with i in H, and stands for one of some stations
abbrev pub reached : Graph → List ℕ → ℕ → List ℕ → ℕ → Bool
reached H xs i ys z = H i z && member (get_or xs z 0) ys

pub row-none : (F H : Graph) (xs : List ℕ) (i : ℕ) → F ≡ row_to F i (reached H xs i [])
row-none F H xs i = fun_ext (λ x. fun_ext (λ y. at x y))
  where
    at : (x y : ℕ) → F x y ≡ row_to F i (reached H xs i []) x y
    at x y = grind (arith, nat_tests)

row_more : (F : Graph) (i k : ℕ) (p q : ℕ → Bool) → ((z : ℕ) → (p z || eqb z k) ≡ q z) → including (row_to F i p) i k ≡ row_to F i q
row_more F i k p q same = fun_ext (λ x. fun_ext (λ y. joins (F x y) (eqb x i) (eqb y i) (p x) (p y) (eqb x k) (eqb y k) (q x) (q y) (same x) (same y)))
  where
    joins : (f xi yi px py xk yk qx qy : Bool) → (px || xk) ≡ qx → (py || yk) ≡ qy
        → ((f || ((xi && py) || (yi && px))) || ((xi && yk) || (xk && yi))) ≡ (f || ((xi && qy) || (yi && qx)))
    joins f xi yi px py xk yk qx qy e g = grind arith

row-all : (F H : Graph) (i : ℕ) (p : ℕ → Bool) → Symmetric H → ((z : ℕ) → p z ≡ H i z) → row_to F i p ≡ union F (pairs_at H i)
row-all F H i p s same = fun_ext (λ x. fun_ext (λ y. at x y))
  where
    at : (x y : ℕ) → row_to F i p x y ≡ union F (pairs_at H i) x y
    at x y =
        let px = same x in
        let py = same y in
        let turn = s x y in
        ⊎_elim
        (λ (ex : x ≡ i). let hx : H x y ≡ H i y = ap (λ (z : ℕ). H z y) ex in
        ⊎_elim (λ (ey : y ≡ i). let hy : H i x ≡ H i y = ap (H i) (ex ∙ sym ey) in grind (arith, nat_tests)) (λ (ny : y ≡ i → ⊥). grind (arith, nat_tests)) (cases_eq y i))
        (λ (nx : x ≡ i → ⊥).
        ⊎_elim (λ (ey : y ≡ i). let hy : H y x ≡ H i x = ap (λ (z : ℕ). H z x) ey in grind (arith, nat_tests)) (λ (ny : y ≡ i → ⊥). grind (arith, nat_tests)) (cases_eq y i))
        (cases_eq x i)

module _ (G : Graph) (xs : List ℕ) (i : ℕ) where
  -- the next station of the row, b at the position k
  pub placed-more : Distinct xs → i < length xs → (F : Graph) (ys : List ℕ) (b k : ℕ) → G (get_or xs i 0) b ≡ true → k < length xs → get_or xs k 0 ≡ b
      → including (row_to F i (reached (by_position G xs) xs i ys)) i k ≡ row_to F i (reached (by_position G xs) xs i (ys ++ b ∷ []))
  placed-more d hi F ys b k here hk at = row_more F i k (reached H xs i ys) (reached H xs i (ys ++ b ∷ [])) (λ z. rw (member_more (get_or xs z 0) b ys) (⊎_elim (own z) (other z) (cases_eq z k)))
    where
      H : Graph
      H = by_position G xs

      own : (z : ℕ) → z ≡ k → (reached H xs i ys z || eqb z k) ≡ (H i z && (member (get_or xs z 0) ys || eqb (get_or xs z 0) b))
      own z q =
          let s : get_or xs z 0 ≡ b = ap (λ (m : ℕ). get_or xs m 0) q ∙ at in
          let t : H i z ≡ true = position_at G xs i z hi (omega arith) ∙ ap (G (get_or xs i 0)) s ∙ here in
          grind (arith, nat_tests)

      other : (z : ℕ) → (z ≡ k → ⊥) → (reached H xs i ys z || eqb z k) ≡ (H i z && (member (get_or xs z 0) ys || eqb (get_or xs z 0) b))
      other z n =
          ⊎_elim
          (λ (t : H i z ≡ true). let m : get_or xs z 0 ≡ b → ⊥ = λ q. n (same_place xs d z k (position-parts G xs i z t).1 hk (q ∙ sym at)) in grind (arith, nat_tests))
          (λ (t : H i z ≡ false). grind (arith, nat_tests))
          (cases_Bool (H i z))

  -- the whole row
  pub placed-all : (F : Graph) (ys : List ℕ) → Symmetric G → ((x : ℕ) → member x ys ≡ G (get_or xs i 0) x) → row_to F i (reached (by_position G xs) xs i ys) ≡ union F (pairs_at (by_position G xs) i)
  placed-all F ys s all = row-all F (by_position G xs) i (reached (by_position G xs) xs i ys) (position-symmetric G xs s) (λ z. same z (all (get_or xs z 0)))
    where
      same : (z : ℕ) → member (get_or xs z 0) ys ≡ G (get_or xs i 0) (get_or xs z 0) → reached (by_position G xs) xs i ys z ≡ by_position G xs i z
      same z m = grind (arith, nat_tests)

-- the pairs of H at positions below k
abbrev pub rows_to : Graph → ℕ → Graph
rows_to H k x y = H x y && (ltb x k || ltb y k)

pub rows_more : (H E : Graph) (k : ℕ) → E ≡ rows_to H k → union E (pairs_at H k) ≡ rows_to H (k + 1)
rows_more H E k e = ap (λ (K : Graph). union K (pairs_at H k)) e ∙ fun_ext (λ x. fun_ext (λ y. at x y))
  where
    at : (x y : ℕ) → union (rows_to H k) (pairs_at H k) x y ≡ rows_to H (k + 1) x y
    at x y = grind (arith, nat_tests)
