-- How the search for the next coupled station goes on, and that it finds the smallest.
use Rattle.std.proofs.Common.{◌≡◌, ℕ, zero, suc, ◌+◌, ◌-◌, ◌<◌, ◌≤◌, Bool, true, false, cond, Some, None, Option, refl, ap, ◌∙◌, ⊎_elim, arith}
use Rattle.std.proofs.lemmas.Bool.{cases_eq, cases_lt, cond-true, cond-false}
use Rattle.network.specs.Net.{Net, first_from, next_coupled}
use Rattle.network.specs.Laws.{FirstIs, NextIs}

-- what a search that passed over nothing found

first-is : (test : ℕ → Bool) (from t k : ℕ) → from ≤ t → t < from + k → test t ≡ true → ((i : ℕ) → from ≤ i → i < t → test i ≡ false) → first_from test from k ≡ Some t
unfolding first_from
first-is test from t zero l h e none = absurd (omega arith)
first-is test from t (suc k) l h e none =
    ⊎_elim
    (λ same. cond-true _ _ _ (ap test same ∙ e) ∙ ap Some same)
    (λ other. cond-false _ _ _ (none from (omega arith) (omega arith))
    ∙ first-is test (suc from) t k (omega arith) (omega arith) e (λ i g s. none i (omega arith) s))
    (cases_eq from t)

first-none : (test : ℕ → Bool) (from k : ℕ) → ((i : ℕ) → from ≤ i → i < from + k → test i ≡ false) → first_from test from k ≡ None
unfolding first_from
first-none test from zero none = refl
first-none test from (suc k) none =
    cond-false _ _ _ (none from (omega arith) (omega arith)) ∙ first-none test (suc from) k (λ i g s. none i (omega arith) (omega arith))

pub next-found : (net : Net) (s from t : ℕ) → from ≤ t → t < net.size → net.coupled s t ≡ true → ((k : ℕ) → from ≤ k → k < t → net.coupled s k ≡ false)
    → next_coupled net s from ≡ Some t
unfolding next_coupled
next-found net s from t l h e none = first-is (net.coupled s) from t (net.size - from) l (omega arith) e none

pub next-none : (net : Net) (s from t : ℕ) → net.size ≤ t → ((k : ℕ) → from ≤ k → k < t → net.coupled s k ≡ false) → next_coupled net s from ≡ None
unfolding next_coupled
next-none net s from t h none = first-none (net.coupled s) from (net.size - from) (λ i g l. none i g (omega arith))

first-smallest : (test : ℕ → Bool) (t k : ℕ) → FirstIs test t (t + k) (first_from test t k)
unfolding first_from
first-smallest test t zero = λ i l h. absurd (omega arith)
first-smallest test t (suc k) = step (test t) refl (first-smallest test (suc t) k)
  where
    wider : (o : Option ℕ) → test t ≡ false → FirstIs test (suc t) (suc t + k) o → FirstIs test t (t + suc k) o
    wider (Some u) e f = (
      omega (arith, f.0),
      omega (arith, f.1),
      f.2,
      λ i l h. ⊎_elim (λ q. ap test q ∙ e) (λ ne. f.3 i (omega arith) h) (cases_eq i t),
    )
    wider None e f = λ i l h. ⊎_elim (λ q. ap test q ∙ e) (λ ne. f i (omega arith) (omega arith)) (cases_eq i t)

    step : (b : Bool) → test t ≡ b → FirstIs test (suc t) (suc t + k) (first_from test (suc t) k)
        → FirstIs test t (t + suc k) (cond b (Some t) (first_from test (suc t) k))
    step true e f = (omega arith, omega arith, e, λ i l h. absurd (omega arith))
    step false e f = wider (first_from test (suc t) k) e f

pub next-smallest : (net : Net) (s from : ℕ) → NextIs net s from (next_coupled net s from)
unfolding next_coupled first_from
next-smallest net s from =
    ⊎_elim
    (λ lt. let e : from + (net.size - from) ≡ net.size = omega arith in
    rw e at (first-smallest (net.coupled s) from (net.size - from)))
    (λ ge. let z : net.size - from ≡ 0 = omega arith in
    rw z (λ k l h. absurd (omega arith)))
    (cases_lt from net.size)
