-- The first fault of a walk, as a loop comes upon it, and what a check answers by it.
use Rattle.std.proofs.Common.{◌≡◌, ℕ, zero, suc, ◌+◌, ◌-◌, ◌<◌, ◌≤◌, List, length, Some, None, Ok, Err, Option, Result, sym, refl, ap, ◌∙◌, ⊎_elim, arith}
use Rattle.std.proofs.lemmas.Bool.{cases_lt}
use Rattle.network.specs.Refusals.{Fault, or_else, first_fault, unless}
use Rattle.network.specs.Lists.{starts_length_fault, start_fault, starts_fault, name_fault, one_sided_fault, rows_fault, lists_fault}
use Rattle.network.specs.ListLaws.{found_none}

pub none-or_else : (x y : Option Fault) → x ≡ None → y ≡ None → or_else x y ≡ None
none-or_else (Some f) y p q = p
none-or_else None y p q = q

pub or_else-some : (x y : Option Fault) (f : Fault) → x ≡ Some f → or_else x y ≡ Some f
or_else-some (Some g) y f p = p
or_else-some None y f p = absurd (found_none (sym p))

pub or_else-past : (x y : Option Fault) → x ≡ None → or_else x y ≡ y
or_else-past (Some f) y p = absurd (found_none p)
or_else-past None y p = refl

-- a walk without a fault so far goes on
pub walk_none : (found : ℕ → Option Fault) (k : ℕ) → k ≡ 0 → first_fault found k ≡ None
unfolding first_fault
walk_none found k e = rw e

pub walk_more : (found : ℕ → Option Fault) (j k : ℕ) → k ≡ suc j → first_fault found j ≡ None → found j ≡ None → first_fault found k ≡ None
unfolding first_fault
walk_more found j k e h p = rw e (none-or_else (first_fault found j) (found j) h p)

-- or comes upon its first one
pub walk-found : (found : ℕ → Option Fault) (k m : ℕ) (f : Fault) → first_fault found k ≡ None → found k ≡ Some f → k < m → first_fault found m ≡ Some f
unfolding first_fault
walk-found found k zero f h p lt = absurd (omega arith)
walk-found found k (suc m) f h p lt =
    ⊎_elim (λ less. or_else-some (first_fault found m) (found m) f (walk-found found k m f h p less))
    (λ ge. let q : m ≡ k = omega arith in
    or_else-past (first_fault found m) (found m) (ap (first_fault found) q ∙ h) ∙ ap found q ∙ p)
    (cases_lt k m)

pub walk-all : (found : ℕ → Option Fault) (k : ℕ) → ((j : ℕ) → j < k → found j ≡ None) → first_fault found k ≡ None
unfolding first_fault
walk-all found zero h = refl
walk-all found (suc k) h = none-or_else (first_fault found k) (found k) (walk-all found k (λ j lt. h j (omega arith))) (h k (omega arith))

-- the same of a walk from low on, by the places themselves
pub part_none : (found : ℕ → Option Fault) (low : ℕ) → first_fault (λ j. found (low + j)) (low - low) ≡ None
part_none found low = walk_none (λ j. found (low + j)) (low - low) (omega arith)

pub part-more : (found : ℕ → Option Fault) (low k : ℕ) → low ≤ k → first_fault (λ j. found (low + j)) (k - low) ≡ None → found k ≡ None
    → first_fault (λ j. found (low + j)) (k + 1 - low) ≡ None
part-more found low k l h p =
    let e : low + (k - low) ≡ k = omega arith in
    walk_more (λ j. found (low + j)) (k - low) _ (omega arith) h (ap found e ∙ p)

pub part-found : (found : ℕ → Option Fault) (low k high : ℕ) (f : Fault) → low ≤ k → k < high → first_fault (λ j. found (low + j)) (k - low) ≡ None → found k ≡ Some f
    → first_fault (λ j. found (low + j)) (high - low) ≡ Some f
part-found found low k high f l lt h p =
    let e : low + (k - low) ≡ k = omega arith in
    walk-found (λ j. found (low + j)) (k - low) (high - low) f h (ap found e ∙ p) (omega arith)

-- ---- answers

abbrev pub Answer : Type 0
Answer = Result (Unit {0}) Fault

pub answer_ok : (o : Option Fault) → o ≡ None → ◌≡◌ {A = Answer} (Ok tt) (unless o tt)
answer_ok o e = sym (ap (λ x. unless x tt) e)

pub answer_err : (o : Option Fault) (f : Fault) → o ≡ Some f → ◌≡◌ {A = Answer} (Err f) (unless o tt)
answer_err o f e = sym (ap (λ x. unless x tt) e)

pub was-ok : (o : Option Fault) → ◌≡◌ {A = Answer} (Ok tt) (unless o tt) → o ≡ None
was-ok (Some f) h = absurd (let z : ◌≡◌ {A = ℕ} 0 1 = cc in omega arith)
was-ok None h = refl

pub was-err : (o : Option Fault) (f : Fault) → ◌≡◌ {A = Answer} (Err f) (unless o tt) → o ≡ Some f
was-err (Some g) f h = cc
was-err None f h = absurd (let z : ◌≡◌ {A = ℕ} 0 1 = cc in omega arith)

-- ---- the checks of two lists, one after the other

or_else-assoc : (x y z : Option Fault) → or_else (or_else x y) z ≡ or_else x (or_else y z)
or_else-assoc (Some f) y z = refl
or_else-assoc None y z = refl

in_three : (starts names : List ℕ)
    → lists_fault starts names ≡ or_else (starts_fault starts (length names)) (or_else (rows_fault starts (name_fault starts names)) (rows_fault starts (one_sided_fault starts names)))
unfolding lists_fault
in_three starts names =
    sym (or_else-assoc (starts_length_fault starts) (first_fault (start_fault starts (length names)) (length starts))
    (or_else (rows_fault starts (name_fault starts names)) (rows_fault starts (one_sided_fault starts names))))

pub lists-starts : (starts names : List ℕ) (f : Fault) → starts_fault starts (length names) ≡ Some f → lists_fault starts names ≡ Some f
lists-starts starts names f h = in_three starts names ∙ or_else-some _ _ f h

pub lists-names : (starts names : List ℕ) (f : Fault) → starts_fault starts (length names) ≡ None
    → rows_fault starts (name_fault starts names) ≡ Some f → lists_fault starts names ≡ Some f
lists-names starts names f h g = in_three starts names ∙ or_else-past _ _ h ∙ or_else-some _ _ f g

pub lists-sides : (starts names : List ℕ) → starts_fault starts (length names) ≡ None → rows_fault starts (name_fault starts names) ≡ None
    → lists_fault starts names ≡ rows_fault starts (one_sided_fault starts names)
lists-sides starts names h g = in_three starts names ∙ or_else-past _ _ h ∙ or_else-past _ _ g

pub lists_named : (starts names : List ℕ) → starts_length_fault starts ≡ None
    → first_fault (start_fault starts (length names)) (length starts) ≡ None
    → rows_fault starts (name_fault starts names) ≡ None
    → lists_fault starts names ≡ rows_fault starts (one_sided_fault starts names)
unfolding lists_fault
lists_named starts names long h g = or_else-past _ _ long ∙ or_else-past _ _ h ∙ or_else-past _ _ g
