-- The laws of the bits of a number: of or, and, not, powers and shifts, and their counts.
use Rattle.std.proofs.Common.{◌≡◌, ℕ, zero, suc, ◌+◌, ◌-◌, ◌*◌, ◌/◌, ◌%◌, ◌^◌, ◌<◌, ◌≤◌, Bool, true, false, cond, not, ◌&&◌, ◌||◌, eqb, ltb, sym, refl, ap, ◌∙◌, ap₂, ⊎_elim, lt_of_lt_of_le, add-zero, add-suc, mod-lt, zero-lt-suc, pow-suc, arith, pow_pos, pow_mono, shr-shr}
use native.Mathlib.Nat.{div-eq_of_lt}
use lib.Dec.{eqb-suc-suc, eqb-zero-suc, eqb-suc-zero}
use lib.Bits.{bit_and, bit_or, or_shr, or_mod, and_shr, and_mod, and_mask, and_le_l, shifted_half, shifted_even}
use lib.Pow.{shl-shr}
use Rattle.std.proofs.lemmas.Bool.{eq-eqb, ne_eqb, eqb-false, cases_eq, lt-ltb, le-ltb}
use Rattle.std.proofs.lemmas.Bool.Decides.{nat_tests}
use Rattle.network.specs.Bits.{bit_at, count_to}
use lib.Count.{ones, ones_step}

two_pos : zero < 2
two_pos = zero-lt-suc 1

pub bit_at-zero : (n : ℕ) → bit_at n 0 ≡ eqb (n % 2) 1
unfolding bit_at
bit_at-zero n = ap (λ (x : ℕ). eqb (x % 2) 1) (omega arith)

pub bit_at-suc : (n k : ℕ) → bit_at n (suc k) ≡ bit_at (n / 2) k
unfolding bit_at
bit_at-suc n k = ap (λ (x : ℕ). eqb (x % 2) 1) (ap (λ (x : ℕ). n / 2 ^ x) (omega arith) ∙ sym (shr-shr n 1 k))

pub bit_at-none : (k : ℕ) → bit_at 0 k ≡ false
bit_at-none zero = bit_at-zero 0
bit_at-none (suc k) = bit_at-suc 0 k ∙ bit_at-none k

-- two digits
digit_or : (x y : ℕ) → x < 2 → y < 2 → eqb (bit_or x y) 1 ≡ (eqb x 1 || eqb y 1)
digit_or zero y hx hy = refl
digit_or (suc zero) zero hx hy = refl
digit_or (suc zero) (suc zero) hx hy = refl
digit_or (suc zero) (suc (suc y)) hx hy = absurd (omega arith)
digit_or (suc (suc x)) y hx hy = absurd (omega arith)

digit_and : (x y : ℕ) → x < 2 → y < 2 → eqb (bit_and x y) 1 ≡ (eqb x 1 && eqb y 1)
digit_and zero y hx hy = refl
digit_and (suc zero) zero hx hy = refl
digit_and (suc zero) (suc zero) hx hy = refl
digit_and (suc zero) (suc (suc y)) hx hy = absurd (omega arith)
digit_and (suc (suc x)) y hx hy = absurd (omega arith)

pub bit_at-or : (a b k : ℕ) → bit_at (bit_or a b) k ≡ (bit_at a k || bit_at b k)
unfolding bit_at
bit_at-or a b k =
    ap (λ (x : ℕ). eqb (x % 2) 1) (or_shr a b k) ∙ ap (λ (x : ℕ). eqb x 1) (or_mod (a / 2 ^ k) (b / 2 ^ k) 1)
    ∙ digit_or (a / 2 ^ k % 2) (b / 2 ^ k % 2) (mod-lt _ two_pos) (mod-lt _ two_pos)

pub bit_at-and : (a b k : ℕ) → bit_at (bit_and a b) k ≡ (bit_at a k && bit_at b k)
unfolding bit_at
bit_at-and a b k =
    ap (λ (x : ℕ). eqb (x % 2) 1) (and_shr a b k) ∙ ap (λ (x : ℕ). eqb x 1) (and_mod (a / 2 ^ k) (b / 2 ^ k) 1)
    ∙ digit_and (a / 2 ^ k % 2) (b / 2 ^ k % 2) (mod-lt _ two_pos) (mod-lt _ two_pos)

pub bit_at-pow : (k j : ℕ) → bit_at (2 ^ k) j ≡ eqb j k
bit_at-pow zero zero = bit_at-zero 1
bit_at-pow zero (suc j) = bit_at-suc 1 j ∙ bit_at-none j ∙ sym (eqb-suc-zero j)
bit_at-pow (suc k) zero = bit_at-zero (2 ^ suc k) ∙ ne_eqb _ _ (λ e. omega (arith, e, pow-suc 2 k)) ∙ sym (eqb-zero-suc k)
bit_at-pow (suc k) (suc j) =
    bit_at-suc (2 ^ suc k) j ∙ ap (λ (x : ℕ). bit_at x j) (omega (arith, pow-suc 2 k)) ∙ bit_at-pow k j ∙ sym (eqb-suc-suc j k)

digit_not : (x y : ℕ) → x + y ≡ 1 → eqb x 1 ≡ not (eqb y 1)
digit_not zero zero e = absurd (omega arith)
digit_not zero (suc zero) e = refl
digit_not zero (suc (suc y)) e = absurd (omega arith)
digit_not (suc zero) zero e = refl
digit_not (suc zero) (suc y) e = absurd (omega arith)
digit_not (suc (suc x)) y e = absurd (omega arith)

-- all the bits of a word turned: `!a` at w bits is `2 ^ w - 1 - a`
pub bit_at-not : (w a k : ℕ) → a < 2 ^ w → k < w → bit_at ((2 ^ w - 1) - a) k ≡ not (bit_at a k)
bit_at-not zero a k ha hk = absurd (omega arith)
bit_at-not (suc w) a zero ha hk =
    bit_at-zero _ ∙ digit_not _ (a % 2) (omega (arith, pow-suc 2 w, pow_pos w)) ∙ ap not (sym (bit_at-zero a))
bit_at-not (suc w) a (suc k) ha hk =
    bit_at-suc _ k ∙ ap (λ (x : ℕ). bit_at x k) (omega (arith, pow-suc 2 w, pow_pos w))
    ∙ bit_at-not w (a / 2) k (omega (arith, pow-suc 2 w)) (omega arith) ∙ ap not (sym (bit_at-suc a k))

-- a bit as a digit
digit-is : (x : ℕ) → x < 2 → x ≡ cond (eqb x 1) 1 0
digit-is zero h = refl
digit-is (suc zero) h = refl
digit-is (suc (suc x)) h = absurd (omega arith)

pub digit-bit_at : (n k : ℕ) → n / 2 ^ k % 2 ≡ cond (bit_at n k) 1 0
unfolding bit_at
digit-bit_at n k = digit-is (n / 2 ^ k % 2) (mod-lt _ two_pos)

-- `n >> k & 1`
pub shr_and_one : (n k : ℕ) → bit_and (n / 2 ^ k) 1 ≡ cond (bit_at n k) 1 0
shr_and_one n k = and_mask (n / 2 ^ k) 1 ∙ digit-bit_at n k

pub bit_le : (b : Bool) → cond b 1 0 ≤ 1
bit_le true = omega arith
bit_le false = omega arith

-- a number with no bit set is 0
pub zero-from-bits : (w n : ℕ) → n < 2 ^ w → ((k : ℕ) → k < w → bit_at n k ≡ false) → n ≡ 0
zero-from-bits zero n h f = omega arith
zero-from-bits (suc w) n h f =
    let hi : n / 2 ≡ 0 = zero-from-bits w (n / 2) (omega (arith, pow-suc 2 w)) (λ k hk. sym (bit_at-suc n k) ∙ f (suc k) (omega arith)) in
    let lo : eqb (n % 2) 1 ≡ false = sym (bit_at-zero n) ∙ f 0 (omega arith) in
    let odd : n % 2 ≡ 1 → ⊥ = eqb-false _ _ lo in
    ⊎_elim (λ e. absurd (odd e)) (λ ne. omega arith) (cases_eq (n % 2) 1)

-- two numbers of w bits with the same bits are equal
pub same-from-bits : (w m n : ℕ) → m < 2 ^ w → n < 2 ^ w → ((k : ℕ) → k < w → bit_at m k ≡ bit_at n k) → m ≡ n
same-from-bits zero m n hm hn f = omega arith
same-from-bits (suc w) m n hm hn f =
    let hi : m / 2 ≡ n / 2 = same-from-bits w (m / 2) (n / 2) (omega (arith, pow-suc 2 w)) (omega (arith, pow-suc 2 w))
    (λ k hk. sym (bit_at-suc m k) ∙ f (suc k) (omega arith) ∙ bit_at-suc n k) in
    let lo : eqb (m % 2) 1 ≡ eqb (n % 2) 1 = sym (bit_at-zero m) ∙ f 0 (omega arith) ∙ bit_at-zero n in
    grind (arith, nat_tests)

-- `u & v & !t == 0`: each bit of both u and v is one of t
pub bits-within : (w u v t : ℕ) → t < 2 ^ w → bit_and (bit_and u v) ((2 ^ w - 1) - t) ≡ 0
    → (k : ℕ) → k < w → bit_at u k ≡ true → bit_at v k ≡ true → bit_at t k ≡ true
bits-within w u v t ht e k hk p q =
    let z : bit_at (bit_and (bit_and u v) ((2 ^ w - 1) - t)) k ≡ false = ap (λ (x : ℕ). bit_at x k) e ∙ bit_at-none k in
    let o : ((bit_at u k && bit_at v k) && not (bit_at t k)) ≡ false =
    ap₂ (λ x y. x && y) (sym (bit_at-and u v k)) (sym (bit_at-not w t k ht hk)) ∙ sym (bit_at-and (bit_and u v) ((2 ^ w - 1) - t) k) ∙ z in
    grind arith

pub within-bits : (w u v t : ℕ) → u < 2 ^ w → t < 2 ^ w
    → ((k : ℕ) → k < w → bit_at u k ≡ true → bit_at v k ≡ true → bit_at t k ≡ true) → bit_and (bit_and u v) ((2 ^ w - 1) - t) ≡ 0
within-bits w u v t hu ht f =
    zero-from-bits w _ (omega (arith, and_le_l u v, and_le_l (bit_and u v) ((2 ^ w - 1) - t)))
    (λ k hk. bit_at-and (bit_and u v) ((2 ^ w - 1) - t) k ∙ ap₂ (λ x y. x && y) (bit_at-and u v k) (bit_at-not w t k ht hk)
    ∙ implied (bit_at u k) (bit_at v k) (bit_at t k) (f k hk))
  where
    implied : (x y z : Bool) → (x ≡ true → y ≡ true → z ≡ true) → ((x && y) && not z) ≡ false
    implied true true z g = ap not (g refl refl)
    implied true false z g = refl
    implied false y z g = refl

-- ---- counts of bits
pub count_to-same : (p q : ℕ → Bool) (n : ℕ) → ((k : ℕ) → k < n → p k ≡ q k) → count_to p n ≡ count_to q n
unfolding count_to
count_to-same p q zero f = refl
count_to-same p q (suc n) f =
    ap₂ (λ (x : ℕ) (b : Bool). x + cond b 1 0) (count_to-same p q n (λ k h. f k (omega arith))) (f n (omega arith))

pub count_to-add : (p : ℕ → Bool) (m n : ℕ) → count_to p (m + n) ≡ count_to p m + count_to (λ k. p (m + k)) n
unfolding count_to
count_to-add p m zero = ap (count_to p) (add-zero m) ∙ sym (add-zero (count_to p m))
count_to-add p m (suc n) = ap (count_to p) (add-suc m n) ∙ omega (arith, count_to-add p m n)

-- the lowest first
pub count_to-first : (p : ℕ → Bool) (n : ℕ) → count_to p (suc n) ≡ cond (p 0) 1 0 + count_to (λ k. p (suc k)) n
unfolding count_to
count_to-first p zero = omega arith
count_to-first p (suc n) = omega (arith, count_to-first p n)

pub count_to-le : (p : ℕ → Bool) (n : ℕ) → count_to p n ≤ n
unfolding count_to
count_to-le p zero = omega arith
count_to-le p (suc n) = omega (arith, count_to-le p n, le (p n))
  where
    le : (b : Bool) → cond b 1 0 ≤ 1
    le true = omega arith
    le false = omega arith

-- `count_ones` counts the bits
pub ones-bits : (w n : ℕ) → n < 2 ^ w → ones n ≡ count_to (bit_at n) w
unfolding ones count_to
ones-bits zero n h = let z : n ≡ 0 = omega arith in rw z refl
ones-bits (suc w) n h =
    let d : n % 2 ≡ cond (bit_at n 0) 1 0 = ap (λ (x : ℕ). x % 2) (omega arith) ∙ digit-bit_at n 0 in
    let rest : ones (n / 2) ≡ count_to (λ k. bit_at n (suc k)) w =
    ones-bits w (n / 2) (omega (arith, pow-suc 2 w)) ∙ count_to-same _ _ w (λ k hk. sym (bit_at-suc n k)) in
    ones_step n ∙ ap₂ (λ (x y : ℕ). x + y) d rest ∙ sym (count_to-first (bit_at n) w)

-- the m low bits set
pub bit_at-low : (m j : ℕ) → bit_at (2 ^ m - 1) j ≡ ltb j m
bit_at-low zero j = bit_at-none j ∙ sym (le-ltb j 0 (omega arith))
bit_at-low (suc m) zero = bit_at-zero _ ∙ eq-eqb _ _ (omega (arith, pow-suc 2 m, pow_pos m)) ∙ sym (lt-ltb 0 (suc m) (omega arith))
bit_at-low (suc m) (suc j) =
    bit_at-suc _ j ∙ ap (λ (x : ℕ). bit_at x j) (omega (arith, pow-suc 2 m, pow_pos m)) ∙ bit_at-low m j ∙ grind (arith, nat_tests)

-- ---- the bits of a number that is shifted or cut
pub bit_at-shr : (n k j : ℕ) → bit_at (n / 2 ^ k) j ≡ bit_at n (k + j)
unfolding bit_at
bit_at-shr n k j = ap (λ (x : ℕ). eqb (x % 2) 1) (shr-shr n k j)

pub bit_at-shl : (a s j : ℕ) → bit_at (a * 2 ^ s) (s + j) ≡ bit_at a j
bit_at-shl a s j = sym (bit_at-shr (a * 2 ^ s) s j) ∙ ap (λ (x : ℕ). bit_at x j) (shl-shr a s)

pub bit_at-shl-low : (a s j : ℕ) → j < s → bit_at (a * 2 ^ s) j ≡ false
bit_at-shl-low a zero j h = absurd (omega arith)
bit_at-shl-low a (suc s) zero h = bit_at-zero _ ∙ ne_eqb _ _ (λ e. omega (arith, e, shifted_even a s))
bit_at-shl-low a (suc s) (suc j) h = bit_at-suc _ j ∙ ap (λ (x : ℕ). bit_at x j) (shifted_half a s) ∙ bit_at-shl-low a s j (omega arith)

pub bit_at-high : (w n j : ℕ) → n < 2 ^ w → w ≤ j → bit_at n j ≡ false
unfolding bit_at
bit_at-high w n j h l = let b : n < 2 ^ j = lt_of_lt_of_le h (pow_mono l) in ap (λ (x : ℕ). eqb (x % 2) 1) (div-eq_of_lt b)

pub bit_at-mod : (n k j : ℕ) → bit_at (n % 2 ^ k) j ≡ (bit_at n j && ltb j k)
bit_at-mod n k j = ap (λ (x : ℕ). bit_at x j) (sym (and_mask n k)) ∙ bit_at-and n (2 ^ k - 1) j ∙ ap (λ b. bit_at n j && b) (bit_at-low k j)
