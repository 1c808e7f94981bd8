-- The width of a station's field is the smallest that serves.
use Rattle.std.proofs.Common.{◌≡◌, ℕ, zero, suc, ◌*◌, ◌%◌, ◌^◌, ◌<◌, ◌≤◌, ltb, Option, Some, None, MatchOption, unwrap_or, sym, ⊎_elim, arith, pow_mono}
use Rattle.std.proofs.lemmas.Bool.{cases_lt, cond_both, cond-true, lt-ltb, ltb-true}
use Rattle.std.proofs.lemmas.Nat.{one_shl}
use Rattle.network.proofs.Places.{width_few, width-holds}
use Rattle.network.specs.Sheets.{width_to, width}
use Rattle.network.specs.SheetLaws.{WidthIsSmallest}

width_to-least : (n k v : ℕ) → 1 ≤ v → n ≤ 2 ^ v → width_to n k ≤ v
unfolding width_to
width_to-least n zero v some serves = some
width_to-least n (suc k) v some serves =
    cond_both (ltb (2 ^ suc k) n) (suc (suc k)) (width_to n k) (λ x. x ≤ v)
    (λ more. ⊎_elim
    (λ less. let below : 2 ^ v ≤ 2 ^ suc k = pow_mono (omega arith) in absurd (omega (arith, ltb-true _ _ more)))
    (λ enough. enough)
    (cases_lt v (suc (suc k))))
    (λ e. width_to-least n k v some serves)

pub width-is-smallest : WidthIsSmallest
unfolding width
width-is-smallest n few = ((width_few n).0, width-holds n few, width_to-least n 8)

-- the first width that serves is the width, and where none below 9 does, that is 9
pub first_width : (n : ℕ) (r : Option ℕ)
    → MatchOption r ((k : ℕ) → 1 ≤ k → k < 9 → (1 * 2 ^ k) % 2 ^ 32 < n)
    (λ i. (1 ≤ i) × (i < 9) × (n ≤ (1 * 2 ^ i) % 2 ^ 32) × ((k : ℕ) → 1 ≤ k → k < i → (1 * 2 ^ k) % 2 ^ 32 < n))
    → unwrap_or r 9 ≡ width n
unfolding width width_to
first_width n None none =
    let above : 2 ^ 8 < n = omega (arith, none 8 (omega arith) (omega arith), one_shl 8 32 (omega arith)) in
    sym (cond-true (ltb (2 ^ 8) n) 9 (width_to n 7) (lt-ltb (2 ^ 8) n above))
first_width n (Some i) found =
    let serves : n ≤ 2 ^ i = omega (arith, found.2, one_shl i 32 (omega arith)) in
    let small : i ≤ 9 = omega (arith, found.1) in
    let below : 2 ^ i ≤ 2 ^ 9 = pow_mono small in
    let few = width_few n in
    let w : ℕ = width n in
    let least : w ≤ i = width_to-least n 8 i found.0 serves in
    let holds : n ≤ 2 ^ w = width-holds n (omega arith) in
    ⊎_elim
    (λ less. absurd (omega (arith, holds, found.3 w few.0 less, one_shl w 32 (omega arith))))
    (λ ge. omega arith)
    (cases_lt w i)
