-- Places of the stations behind a sheet's header, and their width.
use Rattle.std.proofs.Common.{◌≡◌, ℕ, zero, suc, ◌+◌, ◌-◌, ◌*◌, ◌%◌, ◌^◌, ◌<◌, ◌≤◌, ltb, sym, ap, ◌∙◌, mul-le-mul_left, mul-suc, add-one, arith}
use Rattle.std.proofs.lemmas.Bool.{cond-true, cond-false, cond_both, lt-ltb, le-ltb, ltb-false}
use Rattle.std.proofs.lemmas.Nat.{one_shl}
use Rattle.network.specs.Sheets.{width_to, width}
use Rattle.network.specs.Decode.{place_for}

pub place-next : (w i : ℕ) → place_for w (i + 1) ≡ place_for w i + w
unfolding place_for
place-next w i = rw add-one (omega (arith, mul-suc w i))

pub place-within : (w i t : ℕ) → i < t → place_for w i + w ≤ place_for w t
unfolding place_for
place-within w i t h = let m : w * suc i ≤ w * t = mul-le-mul_left w h in omega (arith, mul-suc w i)

pub width-less : (n w : ℕ) → 1 < w → w ≤ 9 → n ≤ (1 * 2 ^ (w - 1)) % 2 ^ 32 → width_to n (w - 1 - 1) ≡ width_to n (w - 1)
unfolding width_to
width-less n w h l le =
    let e : w - 1 ≡ suc (w - 1 - 1) = omega arith in
    let b : n ≤ 2 ^ (w - 1) = omega (arith, one_shl (w - 1) 32 (omega arith)) in
    let b' : n ≤ 2 ^ suc (w - 1 - 1) = rw e at b in
    sym (ap (width_to n) e ∙ cond-false _ _ _ (le-ltb _ _ b'))

pub width-here : (n w : ℕ) → 1 < w → w ≤ 9 → (1 * 2 ^ (w - 1)) % 2 ^ 32 < n → width_to n (w - 1) ≡ w
unfolding width_to
width-here n w h l lt =
    let e : w - 1 ≡ suc (w - 1 - 1) = omega arith in
    let b : 2 ^ (w - 1) < n = omega (arith, one_shl (w - 1) 32 (omega arith)) in
    let b' : 2 ^ suc (w - 1 - 1) < n = rw e at b in
    ap (width_to n) e ∙ cond-true _ _ _ (lt-ltb _ _ b') ∙ omega arith

pub width_one : (n w : ℕ) → 1 ≤ w → w ≤ 1 → width_to n (w - 1) ≡ w
unfolding width_to
width_one n w h l = let e : w - 1 ≡ 0 = omega arith in ap (width_to n) e ∙ omega arith

width_to-holds : (n k : ℕ) → n ≤ 2 ^ suc k → n ≤ 2 ^ width_to n k
unfolding width_to
width_to-holds n zero h = h
width_to-holds n (suc k) h =
    cond_both (ltb (2 ^ suc k) n) (suc (suc k)) (width_to n k) (λ x. n ≤ 2 ^ x) (λ e. h) (λ e. width_to-holds n k (ltb-false _ _ e))

pub width-holds : (n : ℕ) → n ≤ 512 → n ≤ 2 ^ width n
unfolding width
width-holds n h = width_to-holds n 8 h

width_to-few : (n k : ℕ) → (1 ≤ width_to n k) × (width_to n k ≤ suc k)
unfolding width_to
width_to-few n zero = (omega arith, omega arith)
width_to-few n (suc k) =
    let r = width_to-few n k in
    cond_both (ltb (2 ^ suc k) n) (suc (suc k)) (width_to n k) (λ x. (1 ≤ x) × (x ≤ suc (suc k))) (λ e. (omega arith, omega arith)) (λ e. (r.0, omega (arith, r.1)))

pub width_few : (n : ℕ) → (1 ≤ width n) × (width n ≤ 9)
unfolding width
width_few n = width_to-few n 8
