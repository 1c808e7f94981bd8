-- The stations after one in an order, and the pairs of a graph beyond another.
use Rattle.std.proofs.Common.{◌≡◌, ℕ, zero, suc, ◌+◌, ◌-◌, ◌<◌, ◌≤◌, Bool, true, false, cond, not, ◌&&◌, eqb, List, [], ◌∷◌, length, length-drop, get_or, drop, slice_get, sym, refl, ap, ◌∙◌, subst, arith}
use Rattle.std.proofs.lemmas.List.{get_or-drop}
use Rattle.std.proofs.lemmas.Bool.{eq-eqb, ne_eqb, cond-true, cond-false, both_ways}
use Rattle.network.specs.Bits.{count_to}
use Rattle.elimination.specs.declared.order.EliminationOrder.{EliminationOrder}
use Rattle.elimination.specs.Elimination.{beyond, pairs_below}
use Rattle.elimination.specs.Graphs.{Graph, Sub}
use Rattle.elimination.specs.Orders.{Distinct, later, last_of}
use Rattle.elimination.specs.View.{listed}
use Rattle.elimination.proofs.Listing.{get_or-in, listed-length, listed_small, order-of}

-- what comes after the station at k
pub later-drop : (xs : List ℕ) (k : ℕ) → Distinct xs → k < length xs → later xs (get_or xs k 0) ≡ drop (k + 1) xs
later-drop [] k d h = absurd (let no : ⊥ = omega arith in no)
later-drop (x ∷ xs) zero d h = cond-true (eqb x x) xs (later xs x) (eq-eqb x x refl)
later-drop (x ∷ xs) (suc k) d h =
    cond-false (eqb x (get_or xs k 0)) xs (later xs (get_or xs k 0)) (ne_eqb x (get_or xs k 0) (λ q. d.0 (rw (sym q) at (get_or-in xs k (omega arith)))))
    ∙ later-drop xs k d.1 (omega arith) ∙ (let e : suc k + 1 ≡ suc (k + 1) = omega arith in sym (ap (λ (m : ℕ). drop m (x ∷ xs)) e))

-- the last member, by its place
pub last-at : (xs : List ℕ) → last_of xs ≡ slice_get xs (length xs - 1)
last-at [] = refl
last-at (x ∷ []) = refl
last-at (x ∷ y ∷ ys) = last-at (y ∷ ys) ∙ ap (λ (m : ℕ). slice_get (x ∷ y ∷ ys) m) (let e : suc (length (y ∷ ys) - 1) ≡ length (x ∷ y ∷ ys) - 1 = omega arith in e)

-- ---- the pairs of a graph beyond another

split : (f c : Bool) → (c ≡ true → f ≡ true) → ◌≡◌ {A = ℕ} (cond (f && not c) 1 0 + cond c 1 0) (cond f 1 0)
split true true h = refl
split true false h = refl
split false true h = absurd (both_ways true (sym (h refl)) refl)
split false false h = refl

count-split : (f c : ℕ → Bool) (n : ℕ) → ((k : ℕ) → c k ≡ true → f k ≡ true) → count_to (λ k. f k && not (c k)) n + count_to c n ≡ count_to f n
unfolding count_to
count-split f c zero h = refl
count-split f c (suc n) h = omega (arith, count-split f c n h, split (f n) (c n) (h n))

pub pairs_split : (F C : Graph) (n : ℕ) → Sub C F → pairs_below n (beyond F C) + pairs_below n C ≡ pairs_below n F
unfolding pairs_below
pairs_split F C zero s = refl
pairs_split F C (suc n) s = omega (arith, pairs_split F C n s, count-split (F n) (C n) n (s n))

pub pairs_within : (F C : Graph) (n : ℕ) → Sub C F → pairs_below n C ≤ pairs_below n F
pairs_within F C n s = omega (arith, pairs_split F C n s)

-- ---- what comes after a station of an order

pub rest-is : (xs : List ℕ) (s k : ℕ) → Distinct xs → k < length xs → get_or xs k 0 ≡ s → later xs s ≡ drop (k + 1) xs
rest-is xs s k d h q = ap (later xs) (sym q) ∙ later-drop xs k d h

module _ (order : EliminationOrder) (s k : ℕ) (h : k < order.size) (q : get_or (listed order) k 0 ≡ s) where
  pub later-listed : later (listed order) s ≡ drop (k + 1) (listed order)
  later-listed = let l = listed-length order in rest-is (listed order) s k (order-of order).once (omega arith) q

  pub length-later : length (later (listed order) s) < order.size
  length-later = rw later-listed (let l = listed-length order in let n = length-drop (k + 1) (listed order) in omega arith)

  pub later_small : (j : ℕ) → j < length (later (listed order) s) → get_or (later (listed order) s) j 0 < order.size
  later_small j l =
      let P : List ℕ → Type 0 = λ xs. (i : ℕ) → i < length xs → get_or xs i 0 < order.size in
      subst P (sym later-listed) (λ i m. rw get_or-drop (let n = length-drop (k + 1) (listed order) in listed_small order (k + 1 + i) (omega arith))) j l
