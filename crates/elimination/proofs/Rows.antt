-- Single words of a row, and what a write to one does to each pair.
use Rattle.std.proofs.Common.{◌≡◌, ℕ, ◌+◌, ◌-◌, ◌*◌, ◌/◌, ◌%◌, ◌^◌, ◌<◌, ◌≤◌, true, false, cond, not, ◌&&◌, eqb, ltb, ◌⊎◌, List, length, get_or, set, replicate, sym, ap, ◌∙◌, inl, inr, ⊎_elim, arith}
use mathlib.Core.Path.{fun_ext}
use lib.Bits.{bit_and, bit_or}
use Rattle.std.proofs.lemmas.List.{get_or-set_same, get_or-set_other, get_or_past, get_or-replicate, length-replicate}
use Rattle.std.proofs.lemmas.Bool.{cases_eq, cases_lt, lt-ltb, le-ltb, ltb-true, and_parts, and_left, and_right}
use Rattle.std.proofs.lemmas.Bool.Decides.{nat_tests}
use Rattle.std.proofs.lemmas.Nat.{one_shl, pow_below}
use Rattle.network.specs.Bits.{bit_at}
use Rattle.network.proofs.Bits.{bit_at-none, bit_at-or, bit_at-and, bit_at-pow, bit_at-not}
use Rattle.elimination.specs.Graphs.{Graph}
use Rattle.elimination.specs.Words.{has, rows, placed, struck}

-- ---- rows and single bits

pub rows-has : (ws : List ℕ) (a b : ℕ) → a < 512 → b < 512 → rows ws a b ≡ has ws a b
unfolding rows
rows-has ws a b ha hb = simp (lt-ltb a 512 ha, lt-ltb b 512 hb)

pub rows-below : (ws : List ℕ) (a b : ℕ) → rows ws a b ≡ true → (a < 512) × (b < 512)
unfolding rows
rows-below ws a b h =
    let t = and_parts (ltb a 512) (ltb b 512 && has ws a b) h in
    (ltb-true a 512 t.0, ltb-true b 512 (and_parts (ltb b 512) (has ws a b) t.1).0)

pub rows-past : (ws : List ℕ) (a b : ℕ) → (512 ≤ a) ⊎ (512 ≤ b) → rows ws a b ≡ false
unfolding rows
rows-past ws a b (inl h) = and_left (ltb a 512) (ltb b 512 && has ws a b) (le-ltb a 512 h)
rows-past ws a b (inr h) = and_right (ltb a 512) (ltb b 512 && has ws a b) (and_left (ltb b 512) (has ws a b) (le-ltb b 512 h))

-- a graph that has only stations below 512, and agrees with the bits there, is the rows
pub rows_are : (ws : List ℕ) (G : Graph) → ((x y : ℕ) → x < 512 → y < 512 → has ws x y ≡ G x y) → ((x y : ℕ) → (512 ≤ x) ⊎ (512 ≤ y) → G x y ≡ false) → rows ws ≡ G
rows_are ws G f g = fun_ext (λ x. fun_ext (λ y. here x y))
  where
    here : (x y : ℕ) → rows ws x y ≡ G x y
    here x y =
        ⊎_elim
        (λ (hx : x < 512). ⊎_elim (λ (hy : y < 512). rows-has ws x y hx hy ∙ f x y hx hy) (λ (hy : 512 ≤ y). rows-past ws x y (inr hy) ∙ sym (g x y (inr hy))) (cases_lt y 512))
        (λ (hx : 512 ≤ x). rows-past ws x y (inl hx) ∙ sym (g x y (inl hx)))
        (cases_lt x 512)

zeroes : (n k : ℕ) → ◌≡◌ {A = ℕ} (get_or (replicate n 0) k 0) 0
zeroes n k =
    ⊎_elim (λ (lt : k < n). get_or-replicate n k 0 0 lt)
    (λ (ge : n ≤ k). let le : length (replicate n 0) ≤ k = rw length-replicate ge in get_or_past (replicate n 0) k 0 le)
    (cases_lt k n)

pub rows_empty : (a b : ℕ) → rows (replicate 4096 0) a b ≡ false
unfolding rows has
rows_empty a b =
    let e : has (replicate 4096 0) a b ≡ false = ap (λ (w : ℕ). bit_at w (b % 64)) (zeroes 4096 (a * 8 + b / 64)) ∙ bit_at-none (b % 64) in
    grind arith

-- ---- a write to the word k of the row a

pub has-set : (ws : List ℕ) (a k v x y : ℕ) → length ws ≡ 4096 → a < 512 → k < 8 → x < 512 → y < 512
    → has (set ws (a * 8 + k) v) x y ≡ cond (eqb x a && eqb (y / 64) k) (bit_at v (y % 64)) (has ws x y)
unfolding has
has-set ws a k v x y l ha hk hx hy =
    ⊎_elim
    (λ e. let i : x * 8 + y / 64 ≡ a * 8 + k = e in
    let here : a * 8 + k < length ws = omega arith in
    let t : (eqb x a && eqb (y / 64) k) ≡ true = grind (arith, nat_tests) in
    simp (i, get_or-set_same ws (a * 8 + k) v 0 here, t))
    (λ ne. let t : (eqb x a && eqb (y / 64) k) ≡ false = grind (arith, nat_tests) in
    simp (get_or-set_other ws (a * 8 + k) (x * 8 + y / 64) v 0 ne, t))
    (cases_eq (x * 8 + y / 64) (a * 8 + k))

-- `words[i] |= 1 << k` places the one
pub rows-placed : (ws : List ℕ) (a b : ℕ) → length ws ≡ 4096 → a < 512 → b < 512
    → rows (set ws (a * 8 + b / 64) (bit_or (get_or ws (a * 8 + b / 64) 0) ((1 * 2 ^ (b % 64)) % 2 ^ 64))) ≡ placed (rows ws) a b
unfolding has
rows-placed ws a b l ha hb = rows_are _ (placed (rows ws) a b) here past
  where
    here : (x y : ℕ) → x < 512 → y < 512 → has (set ws (a * 8 + b / 64) (bit_or (get_or ws (a * 8 + b / 64) 0) ((1 * 2 ^ (b % 64)) % 2 ^ 64))) x y ≡ placed (rows ws) a b x y
    here x y hx hy =
        let w : ℕ = get_or ws (a * 8 + b / 64) 0 in
        let one = one_shl (b % 64) 64 (omega arith) in
        let kb : b / 64 < 8 = omega arith in
        let e = has-set ws a (b / 64) (bit_or w ((1 * 2 ^ (b % 64)) % 2 ^ 64)) x y l ha kb hx hy in
        e ∙ rw (rows-has ws x y hx hy) (rw one (rw bit_at-or (rw bit_at-pow (grind (arith, nat_tests)))))

    past : (x y : ℕ) → (512 ≤ x) ⊎ (512 ≤ y) → placed (rows ws) a b x y ≡ false
    past x y h = let e = rows-past ws x y h in other h e
      where
        other : (512 ≤ x) ⊎ (512 ≤ y) → rows ws x y ≡ false → placed (rows ws) a b x y ≡ false
        other (inl k) e = grind (arith, nat_tests)
        other (inr k) e = grind (arith, nat_tests)

-- `words[i] &= !(1 << k)` strikes it
pub rows-struck : (ws : List ℕ) (a b : ℕ) → length ws ≡ 4096 → a < 512 → b < 512
    → rows (set ws (a * 8 + b / 64) (bit_and (get_or ws (a * 8 + b / 64) 0) ((2 ^ 64 - 1) - (1 * 2 ^ (b % 64)) % 2 ^ 64))) ≡ struck (rows ws) a b
unfolding has
rows-struck ws a b l ha hb = rows_are _ (struck (rows ws) a b) here past
  where
    here : (x y : ℕ) → x < 512 → y < 512 → has (set ws (a * 8 + b / 64) (bit_and (get_or ws (a * 8 + b / 64) 0) ((2 ^ 64 - 1) - (1 * 2 ^ (b % 64)) % 2 ^ 64))) x y ≡ struck (rows ws) a b x y
    here x y hx hy =
        let w : ℕ = get_or ws (a * 8 + b / 64) 0 in
        let one = one_shl (b % 64) 64 (omega arith) in
        let kb : b / 64 < 8 = omega arith in
        let e = has-set ws a (b / 64) (bit_and w ((2 ^ 64 - 1) - (1 * 2 ^ (b % 64)) % 2 ^ 64)) x y l ha kb hx hy in
        let bound : 2 ^ (b % 64) < 2 ^ 64 = pow_below (b % 64) 64 (omega arith) in
        let turn : bit_at ((2 ^ 64 - 1) - 2 ^ (b % 64)) (y % 64) ≡ not (eqb (y % 64) (b % 64)) = bit_at-not 64 (2 ^ (b % 64)) (y % 64) bound (omega arith) ∙ ap not (bit_at-pow (b % 64) (y % 64)) in
        e ∙ rw (rows-has ws x y hx hy) (rw one (rw bit_at-and (rw turn (grind (arith, nat_tests)))))

    past : (x y : ℕ) → (512 ≤ x) ⊎ (512 ≤ y) → struck (rows ws) a b x y ≡ false
    past x y h = let e = rows-past ws x y h in grind arith
