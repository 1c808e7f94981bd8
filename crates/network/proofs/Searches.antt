-- The pairs of a sheet rise, and are found by their keys.
use Rattle.std.proofs.Common.{◌≡◌, ℕ, zero, suc, ◌+◌, ◌-◌, ◌*◌, ◌^◌, ◌<◌, ◌≤◌, true, false, ◌&&◌, ◌||◌, eqb, ltb, List, [], ◌∷◌, length, get_or, Some, None, Option, sym, refl, ap, ◌∙◌, ap₂, ⊎_elim, arith, pow_mono}
use Rattle.std.proofs.lemmas.List.FromFn.{length-map-range_with_len, get_or-map-range_with_len}
use Rattle.std.proofs.lemmas.Bool.{cases_lt, cases_eq, eq-eqb, ne_eqb, eqb-true, ltb-true, and_parts, and_from, and_left, and_right, or_left, or_right, or_from, or_cases, false≢true}
use Rattle.std.proofs.lemmas.Bool.Decides.{nat_tests}
use Rattle.network.proofs.Faults.{cond-none, or_else-none, each_none}
use Rattle.network.proofs.Fields.{field_lt}
use Rattle.network.proofs.Places.{width_few}
use Rattle.network.specs.Decode.{place_for, value_at, header_fault, pair_fault, placed_fault, end_fault, body_fault, fault, sheet_of, couplings_of, order_of, faultless, Stands}
use Rattle.network.specs.Parts.{pair_key}
use Rattle.network.specs.Fields.{field, is_in}
use Rattle.network.specs.Refusals.{Fault, or_else, first_fault}
use Rattle.network.specs.Sheets.{width, before, has_pair}

pub value-small : (bs : List ℕ) (w i : ℕ) → w ≤ 9 → value_at bs w i < 512
unfolding value_at
value-small bs w i h = let b : 2 ^ w ≤ 2 ^ 9 = pow_mono h in omega (arith, field_lt bs (place_for w i) w)

pub faultless-none : (o : Option Fault) → faultless o ≡ true → o ≡ None
faultless-none (Some e) h = absurd (false≢true h)
faultless-none None h = refl

-- what a pair without a fault says
pub pair-says : (bs : List ℕ) (n w k : ℕ) → pair_fault bs n w k ≡ None
    → (value_at bs w (2 * k) < n) × (value_at bs w (2 * k + 1) < value_at bs w (2 * k))
    × ((eqb k 0 || before (value_at bs w (2 * k - 2)) (value_at bs w (2 * k - 1)) (value_at bs w (2 * k)) (value_at bs w (2 * k + 1))) ≡ true)
unfolding pair_fault
pair-says bs n w k h =
    let h1 = cond-none (is_in bs (place_for w (2 * k)) w) _ 1 (place_for w (2 * k)) h in
    let h2 = cond-none (is_in bs (place_for w (2 * k + 1)) w) _ 1 (place_for w (2 * k + 1)) h1.1 in
    let h3 = cond-none (ltb (value_at bs w (2 * k)) n && ltb (value_at bs w (2 * k + 1)) (value_at bs w (2 * k))) _ 5 (place_for w (2 * k)) h2.1 in
    let h4 = cond-none (eqb k 0 || before (value_at bs w (2 * k - 2)) (value_at bs w (2 * k - 1)) (value_at bs w (2 * k)) (value_at bs w (2 * k + 1))) None 6 (place_for w (2 * k)) h3.1 in
    let both = and_parts (ltb (value_at bs w (2 * k)) n) (ltb (value_at bs w (2 * k + 1)) (value_at bs w (2 * k))) h3.0 in
    (ltb-true _ _ both.0, ltb-true _ _ both.1, h4.0)

before-key : (a b c d : ℕ) → b < 512 → before a b c d ≡ true → a * 512 + b < c * 512 + d
before-key a b c d hb h =
    ⊎_elim (λ lt. omega (arith, ltb-true a c lt))
    (λ both. let p = and_parts (eqb a c) (ltb b d) both in omega (arith, eqb-true a c p.0, ltb-true b d p.1))
    (or_cases (ltb a c) (eqb a c && ltb b d) h)

pub stands-pairs : (bs : List ℕ) (n m : ℕ) → Stands bs n m → (k : ℕ) → k < m → pair_fault bs n (width n) k ≡ None
unfolding fault body_fault
stands-pairs bs n m h =
    let none : fault bs ≡ None = faultless-none (fault bs) h.0 in
    let h0 = or_else-none (header_fault bs) (body_fault bs (field bs 5 10) (field bs 15 17)) none in
    let body : body_fault bs n m ≡ None = ap₂ (body_fault bs) (sym h.1) (sym h.2) ∙ h0.1 in
    let h1 = or_else-none (first_fault (pair_fault bs n (width n)) m) (or_else (first_fault (placed_fault bs n (width n) (2 * m)) n) (end_fault bs (place_for (width n) (2 * m + n)))) body in
    each_none (pair_fault bs n (width n)) m h1.0

key-next : (bs : List ℕ) (n m : ℕ) → Stands bs n m → (k : ℕ) → suc k < m → pair_key bs (width n) k < pair_key bs (width n) (suc k)
unfolding pair_key
key-next bs n m h k lt =
    let w = width n in
    let says = pair-says bs n w (suc k) (stands-pairs bs n m h (suc k) lt) in
    let small : value_at bs w (2 * k + 1) < 512 = value-small bs w (2 * k + 1) (width_few n).1 in
    let ea : 2 * suc k - 2 ≡ 2 * k = omega arith in
    let eb : 2 * suc k - 1 ≡ 2 * k + 1 = omega arith in
    ⊎_elim (λ z. let q : suc k ≡ 0 = eqb-true (suc k) 0 z in absurd (omega arith))
    (λ b. before-key _ _ _ _ small (rw (ea, eb) at b))
    (or_cases (eqb (suc k) 0) _ says.2)

pub key-less : (bs : List ℕ) (n m : ℕ) → Stands bs n m → (j k : ℕ) → j < k → k < m → pair_key bs (width n) j < pair_key bs (width n) k
key-less bs n m h j zero lt hk = absurd (omega arith)
key-less bs n m h j (suc k) lt hk =
    let step = key-next bs n m h k hk in
    ⊎_elim (λ less. omega (arith, step, key-less bs n m h j k less (omega arith)))
    (λ ge. let e : j ≡ k = omega arith in omega (arith, step, ap (pair_key bs (width n)) e))
    (cases_lt j k)

pub key-less-at : (bs : List ℕ) (n m w : ℕ) → w ≡ width n → Stands bs n m → (j k : ℕ) → j < k → k < m → pair_key bs w j < pair_key bs w k
key-less-at bs n m w e h j k lt hk =
    omega (arith, key-less bs n m h j k lt hk, ap (λ (x : ℕ). pair_key bs x j) e, ap (λ (x : ℕ). pair_key bs x k) e)

-- ---- membership by places

has-at : (ps : List (ℕ × ℕ)) (k a b : ℕ) → k < length ps → (get_or ps k (0, 0)).0 ≡ a → (get_or ps k (0, 0)).1 ≡ b → has_pair ps a b ≡ true
unfolding has_pair
has-at [] k a b h p q = absurd (omega arith)
has-at (x ∷ ps) zero a b h p q = or_left _ _ (and_from _ _ (eq-eqb _ _ p) (eq-eqb _ _ q))
has-at (x ∷ ps) (suc k) a b h p q = or_right _ _ (has-at ps k a b (omega arith) p q)

has-none : (ps : List (ℕ × ℕ)) (a b : ℕ) → ((k : ℕ) → k < length ps → (get_or ps k (0, 0)).0 ≡ a → (get_or ps k (0, 0)).1 ≡ b → ⊥) → has_pair ps a b ≡ false
unfolding has_pair
has-none [] a b f = refl
has-none (x ∷ ps) a b f =
    or_from _ _
    (⊎_elim (λ p. and_right _ _ (ne_eqb _ _ (λ q. f 0 (omega arith) p q))) (λ np. and_left _ _ (ne_eqb _ _ np)) (cases_eq x.0 a))
    (has-none ps a b (λ k h. f (suc k) (omega arith)))

pub pair_is : (bs : List ℕ) (n m k : ℕ) → k < m → get_or (sheet_of bs n m).couplings k (0, 0) ≡ (value_at bs (width n) (2 * k), value_at bs (width n) (2 * k + 1))
unfolding couplings_of order_of
pair_is bs n m k h = get_or-map-range_with_len (λ i. (value_at bs (width n) (2 * i), value_at bs (width n) (2 * i + 1))) 0 m k k (0, 0) h (omega arith)

pub count-is : (bs : List ℕ) (n m : ℕ) → length (sheet_of bs n m).couplings ≡ m
unfolding couplings_of order_of
count-is bs n m = length-map-range_with_len _ 0 m

pub has_key : (bs : List ℕ) (n m k a b : ℕ) → k < m → b < 512 → pair_key bs (width n) k ≡ a * 512 + b → has_pair (sheet_of bs n m).couplings a b ≡ true
unfolding pair_key
has_key bs n m k a b h hb e =
    let small : value_at bs (width n) (2 * k + 1) < 512 = value-small bs (width n) (2 * k + 1) (width_few n).1 in
    has-at _ k a b (omega (arith, count-is bs n m))
    (ap (λ (p : ℕ × ℕ). p.0) (pair_is bs n m k h) ∙ omega arith)
    (ap (λ (p : ℕ × ℕ). p.1) (pair_is bs n m k h) ∙ omega arith)

pub has-no-key : (bs : List ℕ) (n m a b : ℕ) → ((k : ℕ) → k < m → pair_key bs (width n) k ≡ a * 512 + b → ⊥) → has_pair (sheet_of bs n m).couplings a b ≡ false
unfolding pair_key
has-no-key bs n m a b f =
    has-none _ a b (λ k h p q.
    let hk : k < m = omega (arith, count-is bs n m) in
    let x : value_at bs (width n) (2 * k) ≡ a = sym (ap (λ (p : ℕ × ℕ). p.0) (pair_is bs n m k hk)) ∙ p in
    let y : value_at bs (width n) (2 * k + 1) ≡ b = sym (ap (λ (p : ℕ × ℕ). p.1) (pair_is bs n m k hk)) ∙ q in
    f k hk (omega arith))

-- no pair has a station of 512 or more
pub has-no-large : (bs : List ℕ) (n m a b : ℕ) → 512 ≤ a → has_pair (sheet_of bs n m).couplings a b ≡ false
has-no-large bs n m a b h =
    has-none _ a b (λ k hk p q.
    let lt : k < m = omega (arith, count-is bs n m) in
    let x : value_at bs (width n) (2 * k) ≡ a = sym (ap (λ (p : ℕ × ℕ). p.0) (pair_is bs n m k lt)) ∙ p in
    omega (arith, value-small bs (width n) (2 * k) (width_few n).1))

pub header-says : (bs : List ℕ) → header_fault bs ≡ None → (1 ≤ field bs 5 10) × (field bs 5 10 ≤ 512)
unfolding header_fault
header-says bs h = (grind (arith, nat_tests), grind (arith, nat_tests))

pub stands-few : (bs : List ℕ) (n m : ℕ) → Stands bs n m → (1 ≤ n) × (n ≤ 512) × (m < 131072)
unfolding fault
stands-few bs n m h =
    let none : fault bs ≡ None = faultless-none (fault bs) h.0 in
    let h0 = or_else-none (header_fault bs) (body_fault bs (field bs 5 10) (field bs 15 17)) none in
    let says = header-says bs h0.0 in
    (omega (arith, says.0, h.1), omega (arith, says.1, h.1), omega (arith, field_lt bs 15 17, h.2))
