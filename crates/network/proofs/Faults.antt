-- Findings of checks: the first fault, and what it says that there is none.
use Rattle.std.proofs.Common.{◌≡◌, ℕ, zero, suc, ◌+◌, ◌<◌, Bool, true, false, cond, get_or, replicate, Some, None, Ok, Err, Option, sym, refl, ap, ◌∙◌, ⊎_elim, add-one, arith}
use Rattle.std.proofs.lemmas.List.{get_or-replicate, get_or_past, length-replicate}
use Rattle.std.proofs.lemmas.Bool.{cases_lt}
use Rattle.network.specs.Refusals.{Fault, refuse, or_else, first_fault, unless}

pub some-none : {e : Fault} → ◌≡◌ {A = Option Fault} (Some e) None → ⊥
some-none p = let z : ◌≡◌ {A = ℕ} 0 1 = cc in omega arith

pub cond-none : (b : Bool) (x : Option Fault) (n p : ℕ) → cond b x (refuse n p) ≡ None → (b ≡ true) × (x ≡ None)
cond-none true x n p h = (refl, h)
cond-none false x n p h = absurd (some-none h)

pub cond-none-else : (b : Bool) (x : Option Fault) (n p : ℕ) → cond b (refuse n p) x ≡ None → (b ≡ false) × (x ≡ None)
cond-none-else true x n p h = absurd (some-none h)
cond-none-else false x n p h = (refl, h)

pub or_else-none : (x y : Option Fault) → or_else x y ≡ None → (x ≡ None) × (y ≡ None)
or_else-none (Some e) y h = absurd (some-none h)
or_else-none None y h = (refl, h)

pub none-or_else : (x y : Option Fault) → x ≡ None → y ≡ None → or_else x y ≡ None
none-or_else (Some e) y p q = p
none-or_else None y p q = q

pub or_else-some : (x y : Option Fault) (e : Fault) → x ≡ Some e → or_else x y ≡ Some e
or_else-some (Some d) y e p = p
or_else-some None y e p = absurd (some-none (sym p))

pub or_else-past : (x y : Option Fault) → x ≡ None → or_else x y ≡ y
or_else-past (Some e) y p = absurd (some-none p)
or_else-past None y p = refl

pub no-fault : (f : ℕ → Option Fault) (k : ℕ) → ((j : ℕ) → j < k → f j ≡ None) → first_fault f k ≡ None
unfolding first_fault
no-fault f zero h = refl
no-fault f (suc k) h = none-or_else (first_fault f k) (f k) (no-fault f k (λ j lt. h j (omega arith))) (h k (omega arith))

pub each_none : (f : ℕ → Option Fault) (k : ℕ) → first_fault f k ≡ None → (j : ℕ) → j < k → f j ≡ None
unfolding first_fault
each_none f zero h j lt = absurd (omega arith)
each_none f (suc k) h j lt =
    let both = or_else-none (first_fault f k) (f k) h in
    ⊎_elim (λ less. each_none f k both.0 j less)
    (λ ge. let e : j ≡ k = omega arith in ap f e ∙ both.1)
    (cases_lt j k)

-- what a loop over the places does
pub fault-none : (f : ℕ → Option Fault) (k : ℕ) → k ≡ 0 → first_fault f k ≡ None
unfolding first_fault
fault-none f k e = rw e

pub fault-more : (f : ℕ → Option Fault) (k : ℕ) → first_fault f k ≡ None → f k ≡ None → first_fault f (k + 1) ≡ None
unfolding first_fault
fault-more f k h p = rw add-one (none-or_else (first_fault f k) (f k) h p)

pub fault-found : (f : ℕ → Option Fault) (k m : ℕ) (e : Fault) → first_fault f k ≡ None → f k ≡ Some e → k < m → first_fault f m ≡ Some e
unfolding first_fault
fault-found f k zero e h p lt = absurd (omega arith)
fault-found f k (suc m) e h p lt =
    ⊎_elim (λ less. or_else-some (first_fault f m) (f m) e (fault-found f k m e h p less))
    (λ ge. let q : m ≡ k = omega arith in
    or_else-past (first_fault f m) (f m) (ap (first_fault f) q ∙ h) ∙ ap f q ∙ p)
    (cases_lt k m)

-- ---- answers

pub unless-err : {X : Type 0} (o : Option Fault) (p : X) (e : Fault) → Err e ≡ unless o p → o ≡ Some e
unless-err (Some d) p e h = cc
unless-err None p e h = absurd (let z : ◌≡◌ {A = ℕ} 0 1 = cc in omega arith)

pub unless-ok : {X : Type 0} (o : Option Fault) (p q : X) → Ok q ≡ unless o p → (o ≡ None) × (q ≡ p)
unless-ok (Some d) p q h = absurd (let z : ◌≡◌ {A = ℕ} 0 1 = cc in omega arith)
unless-ok None p q h = (refl, cc)

pub falses : (n k : ℕ) → get_or (replicate n false) k false ≡ false
falses n k =
    ⊎_elim (λ lt. get_or-replicate n k false false lt)
    (λ ge. get_or_past (replicate n false) k false (omega (arith, length-replicate n false)))
    (cases_lt k n)
