-- Which values were named before, and the marks that a walk keeps of them.
use Rattle.std.proofs.Common.{◌≡◌, ℕ, zero, suc, ◌+◌, ◌<◌, Bool, false, ◌||◌, eqb, sym, refl, ap, ap₂, ◌∙◌, ⊎_elim, add-one, arith}
use Rattle.std.proofs.lemmas.Bool.{cases_lt, ne_eqb, eqb-false, or_parts, or_from}
use Rattle.network.specs.Orders.{named_before}

pub named_start : (f : ℕ → ℕ) (v : ℕ) → named_before f 0 v ≡ false
unfolding named_before
named_start f v = refl

pub named_more : (f : ℕ → ℕ) (k v : ℕ) → named_before f (k + 1) v ≡ (named_before f k v || eqb (f k) v)
unfolding named_before
named_more f k v = rw add-one refl

pub unnamed : (f : ℕ → ℕ) (k v : ℕ) → ((j : ℕ) → j < k → f j ≡ v → ⊥) → named_before f k v ≡ false
unfolding named_before
unnamed f zero v h = refl
unnamed f (suc k) v h = or_from (named_before f k v) (eqb (f k) v) (unnamed f k v (λ j lt. h j (omega arith))) (ne_eqb _ _ (h k (omega arith)))

pub named-nowhere : (f : ℕ → ℕ) (k v : ℕ) → named_before f k v ≡ false → (j : ℕ) → j < k → f j ≡ v → ⊥
unfolding named_before
named-nowhere f zero v h j lt e = absurd (omega arith)
named-nowhere f (suc k) v h j lt e =
    let both = or_parts (named_before f k v) (eqb (f k) v) h in
    ⊎_elim (λ less. named-nowhere f k v both.0 j less e)
    (λ ge. let q : j ≡ k = omega arith in eqb-false _ _ both.1 (ap f (sym q) ∙ e))
    (cases_lt j k)

-- a walk that marks the value at which it is has marked what was named before
pub mark-more : (was is : ℕ → Bool) (f : ℕ → ℕ) (k v : ℕ) → f k ≡ v → ((u : ℕ) → u < 512 → is u ≡ (was u || eqb v u))
    → ((u : ℕ) → u < 512 → was u ≡ named_before f k u) → (u : ℕ) → u < 512 → is u ≡ named_before f (k + 1) u
mark-more was is f k v e marked m u h =
    marked u h ∙ ap₂ (λ x y. x || eqb y u) (m u h) (sym e) ∙ sym (named_more f k u)
