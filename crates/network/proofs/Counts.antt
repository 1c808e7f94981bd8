-- How many couplings rows have, and all rows together.
use Rattle.std.proofs.Common.{◌≡◌, ℕ, zero, suc, ◌+◌, ◌^◌, ◌<◌, ◌≤◌, Bool, true, false, cond, List, [], ◌∷◌, length, fold, sym, refl, ap, ◌∙◌, add-one, arith}
use Rattle.std.specs.List.{range_with_len, sum_by}
use Rattle.std.proofs.lemmas.List.{length-append}
use Rattle.network.proofs.SheetPairs.{pairs-short}
use Rattle.network.proofs.Trips.{pairs-few as few}
use Rattle.network.specs.Sheets.{row_to, pairs_to}

pub row-none : (C : ℕ → ℕ → Bool) (a : ℕ) → length (row_to C a 0) ≡ 0
unfolding row_to
row-none C a = refl

pub row_next : (C : ℕ → ℕ → Bool) (a b : ℕ) (t : Bool) → C a b ≡ t → length (row_to C a (b + 1)) ≡ length (row_to C a b) + cond t 1 0
unfolding row_to
row_next C a b t h = rw add-one (length-append (row_to C a b) (cond (C a b) ((a, b) ∷ []) []) ∙ ap (λ (x : ℕ). length (row_to C a b) + x) (one (C a b) ∙ ap (λ x. cond x 1 0) h))
  where
    one : (x : Bool) → length {A = ℕ × ℕ} (cond x ((a, b) ∷ []) []) ≡ cond x 1 0
    one true = refl
    one false = refl

pub pairs-none : (C : ℕ → ℕ → Bool) → length (pairs_to C 0) ≡ 0
unfolding pairs_to
pairs-none C = refl

pub pairs-more : (C : ℕ → ℕ → Bool) (a : ℕ) → length (pairs_to C (a + 1)) ≡ length (pairs_to C a) + length (row_to C a a)
unfolding pairs_to
pairs-more C a = rw add-one (length-append (pairs_to C a) (row_to C a a))

pub pairs-few : (C : ℕ → ℕ → Bool) (n : ℕ) → n ≤ 512 → length (pairs_to C n) < 2 ^ 17
pairs-few C n h = few n (length (pairs_to C n)) h (pairs-short C n)

-- ---- the same as sums

-- what grows by f at each number is the sum of f
grown : (f g : ℕ → ℕ) → ((k : ℕ) → g (k + 1) ≡ g k + f k) → (a n m : ℕ) → m ≡ g a → fold (λ s k. s + f k) m (range_with_len a n) ≡ g (a + n)
grown f g step a zero m e = e ∙ (let z : a ≡ a + 0 = omega arith in ap g z)
grown f g step a (suc n) m e =
    let z : a + 1 + n ≡ a + suc n = omega arith in
    grown f g step (a + 1) n (m + f a) (ap (λ (x : ℕ). x + f a) e ∙ sym (step a)) ∙ ap g z

-- the couplings of a with the stations below k
pub sum-row : (C : ℕ → ℕ → Bool) (a k : ℕ) → sum_by (λ b. cond (C a b) 1 0) (range_with_len 0 k) ≡ length (row_to C a k)
sum-row C a k =
    grown (λ b. cond (C a b) 1 0) (λ b. length (row_to C a b)) (λ b. row_next C a b (C a b) refl) 0 k 0 (sym (row-none C a))
    ∙ (let z : 0 + k ≡ k = omega arith in ap (λ (x : ℕ). length (row_to C a x)) z)

-- the couplings of the stations below n
pub sum-rows : (C : ℕ → ℕ → Bool) (n : ℕ) → sum_by (λ a. length (row_to C a a)) (range_with_len 0 n) ≡ length (pairs_to C n)
sum-rows C n =
    grown (λ a. length (row_to C a a)) (λ a. length (pairs_to C a)) (pairs-more C) 0 n 0 (sym (pairs-none C))
    ∙ (let z : 0 + n ≡ n = omega arith in ap (λ (x : ℕ). length (pairs_to C x)) z)
