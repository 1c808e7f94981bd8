-- The places of stations: where a graph over stations has a pair, its reserve has a place.
use Rattle.std.proofs.Common.{◌≡◌, ℕ, ◌<◌, min, max, Bool, true, false, ◌||◌, eqb, List, get_or, is_some, sym, refl, ap, ◌∙◌, subst, ap₂, inl, inr, ⊎_elim, arith}
use Rattle.std.proofs.lemmas.Bool.{cases_eq, cases_order, lt-ltb, eq-eqb, ne_eqb}
use Rattle.elimination.specs.Graphs.{Graph}
use Rattle.elimination.specs.Orders.{Order, position_of}
use Rattle.elimination.specs.Elimination.{filled}
use Rattle.elimination.proofs.Listing.{index_of, order-length, position_of_station}
use Rattle.elimination.proofs.Relations.{plain}
use Rattle.elimination.proofs.Statements.{lawful-simple, filled-simple, filled-order-closed}
use Rattle.plan_parts.specs.Layout.{cell, place_for, in_column, Closed}
use Rattle.plan_parts.specs.Reserves.{Symmetric, by_position, place_of_stations}
use Rattle.plan_parts.specs.ReserveLaws.{PlacesForFilledPairs, FilledPlacesAreClosed, FilledPairsAreGrounded}
use Rattle.plan_parts.proofs.Columns.{column-own, column-later}
use Rattle.plan_parts.proofs.Grounds.{grounded}
use Rattle.plan_parts.proofs.Positions.{position_at, position-parts, position-symmetric, position-closed}

-- each station stands at its position
pub placed_at : (n : ℕ) (xs : List ℕ) → Order n xs → (a : ℕ) → a < n → (position_of xs a < n) × (get_or xs (position_of xs a) 0 ≡ a)
placed_at n xs o a h =
    let r = index_of xs a (o.all a h) in
    let e : position_of xs a ≡ r.0 = ap (position_of xs) (sym r.2) ∙ position_of_station xs r.0 o.once r.1 in
    (omega (arith, e, r.1, order-length n xs o), ap (λ (k : ℕ). get_or xs k 0) e ∙ r.2)

cell-there : (F : Graph) (n i j : ℕ) → i < n → is_some (cell F n i j) ≡ in_column F j i
unfolding cell
cell-there F n i j h = go (in_column F j i) refl
  where
    go : (b : Bool) → in_column F j i ≡ b → is_some (cell F n i j) ≡ in_column F j i
    go true e = simp (lt-ltb i n h, e)
    go false e = simp (lt-ltb i n h, e)

-- two positions have a place exactly if they are the same one or a pair
pub place-there : (F : Graph) (n i j : ℕ) → Symmetric F → i < n → j < n → is_some (place_for F n i j) ≡ (eqb i j || F i j)
unfolding place_for
place-there F n i j s hi hj =
    ⊎_elim same (⊎_elim before behind) (cases_order i j)
  where
    same : i ≡ j → is_some (place_for F n i j) ≡ (eqb i j || F i j)
    same e =
        let m : max i j ≡ j = omega arith in
        let k : min i j ≡ j = omega arith in
        rw (m, k) (cell-there F n j j hj ∙ column-own F j ∙ sym (simp (eq-eqb i j e)))

    before : i < j → is_some (place_for F n i j) ≡ (eqb i j || F i j)
    before l =
        let m : max i j ≡ j = omega arith in
        let k : min i j ≡ i = omega arith in
        let d : eqb i j ≡ false = ne_eqb i j (λ e. omega arith) in
        rw (m, k, d) (cell-there F n j i hj ∙ column-later F i j l ∙ s j i)

    behind : j < i → is_some (place_for F n i j) ≡ (eqb i j || F i j)
    behind l =
        let m : max i j ≡ i = omega arith in
        let k : min i j ≡ j = omega arith in
        let d : eqb i j ≡ false = ne_eqb i j (λ e. omega arith) in
        rw (m, k, d) (cell-there F n i j hi ∙ column-later F j i l)

same_test : (i j a b : ℕ) → (i ≡ j → a ≡ b) → (a ≡ b → i ≡ j) → eqb i j ≡ eqb a b
same_test i j a b f g =
    ⊎_elim (λ (e : i ≡ j). eq-eqb i j e ∙ sym (eq-eqb a b (f e))) (λ (n : i ≡ j → ⊥). ne_eqb i j n ∙ sym (ne_eqb a b (λ e. n (g e)))) (cases_eq i j)

-- two stations have a place exactly if they are the same one or a pair
pub stations-there : (n : ℕ) (G : Graph) (xs : List ℕ) → Symmetric G → Order n xs → (a b : ℕ) → a < n → b < n
    → is_some (place_of_stations (by_position G xs) n xs a b) ≡ (eqb a b || G a b)
stations-there n G xs s o a b ha hb =
    let p = placed_at n xs o a ha in
    let q = placed_at n xs o b hb in
    let l = order-length n xs o in
    let i = position_of xs a in
    let j = position_of xs b in
    place-there (by_position G xs) n i j (position-symmetric G xs s) p.0 q.0
    ∙ ap₂ (λ (x y : Bool). x || y) (same_test i j a b (λ e. sym p.1 ∙ ap (λ (k : ℕ). get_or xs k 0) e ∙ q.1) (ap (position_of xs))) (position_at G xs i j (omega (arith, p.0)) (omega (arith, q.0)) ∙ ap₂ (λ (x y : ℕ). G x y) p.1 q.1)

pub places-for-filled-pairs : PlacesForFilledPairs
places-for-filled-pairs net xs lawful o = stations-there net.size (filled net.coupled xs) xs (filled-simple net.size net.coupled (lawful-simple net lawful) xs o).symmetric o

pub filled-places-are-closed : FilledPlacesAreClosed
filled-places-are-closed net xs lawful o =
    let F : Graph = filled net.coupled xs in
    let s = lawful-simple net lawful in
    subst (λ (n : ℕ). Closed (by_position F xs) n) (order-length net.size xs o)
    (position-closed F xs (filled-simple net.size net.coupled s xs o).symmetric o.once (filled-order-closed net.size net.coupled s xs o))

pub filled-pairs-are-grounded : FilledPairsAreGrounded
filled-pairs-are-grounded net xs lawful o i j hi ji h =
    let C : Graph = net.coupled in
    let p = plain net.size C xs o (lawful-simple net lawful) in
    let l = order-length net.size xs o in
    let t = position-parts (filled C xs) xs i j h in
    ⊎_elim
    (λ (c : C (get_or xs i 0) (get_or xs j 0) ≡ true). inl (position_at C xs i j t.0 t.1 ∙ c))
    (λ (g : (k : ℕ) × (k < j) × (filled C xs (get_or xs i 0) (get_or xs k 0) ≡ true) × (filled C xs (get_or xs j 0) (get_or xs k 0) ≡ true)).
    inr (g.0, g.1, position_at (filled C xs) xs i g.0 t.0 (omega (arith, g.1)) ∙ g.2, position_at (filled C xs) xs j g.0 t.1 (omega (arith, g.1)) ∙ g.3))
    (grounded C xs p.symmetric o.once p.within i j t.0 ji t.2)
