-- Laws of fields.
use Rattle.std.proofs.Common.{◌≡◌, ℕ, zero, suc, ◌+◌, ◌-◌, ◌*◌, ◌/◌, ◌%◌, ◌^◌, ◌<◌, ◌≤◌, Bool, true, false, cond, not, eqb, List, length, get_or, set, sym, refl, ap, ◌∙◌, ap₂, ⊎_elim, mul_assoc, pow-suc, add-one, arith, pow_mono, shr-shr}
use native.Mathlib.Nat.{div-eq_of_lt}
use Rattle.network.specs.Bits.{bit_at}
use lib.Bits.{bit_and, bit_or, and_mask}
use Rattle.std.proofs.lemmas.List.{get_or-set_same, get_or-set_other, ext_get_or}
use Rattle.std.proofs.lemmas.Bool.{eq-eqb, ne_eqb, cases_eq, cases_lt, cond-true, cond-false}
use Rattle.std.proofs.lemmas.Bool.Decides.{nat_tests}
use Rattle.std.proofs.lemmas.Nat.{one_shl, pow_below, shr_high, mod_low}
use Rattle.network.proofs.Bits.{bit_le, bit_at-or, bit_at-and, bit_at-pow, bit_at-not, bit_at-zero, bit_at-suc, digit-bit_at, same-from-bits}
use Rattle.network.specs.Fields.{bit_of, field, Written}

pub field-zero : (bs : List ℕ) (p : ℕ) → field bs p 0 ≡ 0
unfolding field
field-zero bs p = refl

pub field-more : (bs : List ℕ) (p w : ℕ) → field bs p (w + 1) ≡ field bs p w * 2 + cond (bit_of bs (p + w)) 1 0
unfolding field
field-more bs p w = rw add-one refl

pub field_lt : (bs : List ℕ) (p w : ℕ) → field bs p w < 2 ^ w
unfolding field
field_lt bs p zero = omega arith
field_lt bs p (suc w) = omega (arith, field_lt bs p w, pow-suc 2 w, bit_le (bit_of bs (p + w)))

-- a field of at most 17 bits
pub field-small : (bs : List ℕ) (p w : ℕ) → w ≤ 17 → field bs p w < 131072
field-small bs p w h = let m : 2 ^ w ≤ 2 ^ 17 = pow_mono h in omega (arith, field_lt bs p w)

-- ---- a write of one byte, at each bit

pub bit_of-set : (bs : List ℕ) (i v k : ℕ) → i < 8 * length bs
    → bit_of (set bs (i / 8) v) k ≡ cond (eqb (k / 8) (i / 8)) (bit_at v (7 - k % 8)) (bit_of bs k)
unfolding bit_of
bit_of-set bs i v k l =
    ⊎_elim
    (λ e. let j : k / 8 ≡ i / 8 = e in
    let here : i / 8 < length bs = omega arith in
    simp (j, get_or-set_same bs (i / 8) v 0 here, eq-eqb (i / 8) (i / 8) refl))
    (λ ne. simp (get_or-set_other bs (i / 8) (k / 8) v 0 ne, ne_eqb (k / 8) (i / 8) ne))
    (cases_eq (k / 8) (i / 8))

pub bit_of-on : (bs : List ℕ) (i k : ℕ) → i < 8 * length bs
    → bit_of (set bs (i / 8) (bit_or (get_or bs (i / 8) 0) ((1 * 2 ^ (7 - i % 8)) % 2 ^ 8))) k ≡ cond (eqb k i) true (bit_of bs k)
unfolding bit_of
bit_of-on bs i k l =
    let one = one_shl (7 - i % 8) 8 (omega arith) in
    let e = bit_of-set bs i (bit_or (get_or bs (i / 8) 0) ((1 * 2 ^ (7 - i % 8)) % 2 ^ 8)) k l in
    e ∙ rw one (rw bit_at-or (rw bit_at-pow (grind (arith, nat_tests))))

pub bit_of-off : (bs : List ℕ) (i k : ℕ) → i < 8 * length bs
    → bit_of (set bs (i / 8) (bit_and (get_or bs (i / 8) 0) ((2 ^ 8 - 1) - (1 * 2 ^ (7 - i % 8)) % 2 ^ 8))) k ≡ cond (eqb k i) false (bit_of bs k)
unfolding bit_of
bit_of-off bs i k l =
    let one = one_shl (7 - i % 8) 8 (omega arith) in
    let bound : 2 ^ (7 - i % 8) < 2 ^ 8 = pow_below (7 - i % 8) 8 (omega arith) in
    let turn : bit_at ((2 ^ 8 - 1) - 2 ^ (7 - i % 8)) (7 - k % 8) ≡ not (eqb (7 - k % 8) (7 - i % 8)) =
    bit_at-not 8 (2 ^ (7 - i % 8)) (7 - k % 8) bound (omega arith) ∙ ap not (bit_at-pow (7 - i % 8) (7 - k % 8)) in
    let e = bit_of-set bs i (bit_and (get_or bs (i / 8) 0) ((2 ^ 8 - 1) - (1 * 2 ^ (7 - i % 8)) % 2 ^ 8)) k l in
    e ∙ rw one (rw bit_at-and (rw turn (grind (arith, nat_tests))))

-- ---- a field written bit by bit

pub written-more : {bs cs ds : List ℕ} {p w v n : ℕ} (on : Bool) → Written bs cs p w v n
    → ((k : ℕ) → bit_of ds k ≡ cond (eqb k (p + n)) on (bit_of cs k)) → on ≡ bit_at v (w - 1 - n) → Written bs ds p w v (n + 1)
written-more {bs} {cs} {ds} {p} {w} {v} {n} on so step is = record {
  inside = λ k h. ⊎_elim
      (λ e. let at_n : bit_of ds (p + n) ≡ on = step (p + n) ∙ cond-true _ _ _ (eq-eqb (p + n) (p + n) refl) in
      ap (λ (x : ℕ). bit_of ds (p + x)) e ∙ at_n ∙ is ∙ ap (λ (x : ℕ). bit_at v (w - 1 - x)) (sym e))
      (λ ne. step (p + k) ∙ cond-false _ _ _ (ne_eqb (p + k) (p + n) (λ e. ne (omega arith))) ∙ so.inside k (omega arith))
      (cases_eq k n);
  before = λ i h. step i ∙ cond-false _ _ _ (ne_eqb i (p + n) (λ e. omega arith)) ∙ so.before i h;
  after = λ i h. step i ∙ cond-false _ _ _ (ne_eqb i (p + n) (λ e. omega arith)) ∙ so.after i (omega arith);
}

-- ---- round trips

-- the first n bits of a number of w bits
field-front : (bs : List ℕ) (p w v n : ℕ) → v < 2 ^ w → n ≤ w → ((k : ℕ) → k < n → bit_of bs (p + k) ≡ bit_at v (w - 1 - k))
    → field bs p n ≡ v / 2 ^ (w - n)
unfolding field
field-front bs p w v zero hv h f = let z : w - 0 ≡ w = omega arith in rw z (sym (div-eq_of_lt hv))
field-front bs p w v (suc n) hv h f =
    let ih : field bs p n ≡ v / 2 ^ (w - n) = field-front bs p w v n hv (omega arith) (λ k hk. f k (omega arith)) in
    let e : w - 1 - n + 1 ≡ w - n = omega arith in
    let g : w - suc n ≡ w - 1 - n = omega arith in
    let s : v / 2 ^ (w - 1 - n) / 2 ≡ v / 2 ^ (w - n) = shr-shr v (w - 1 - n) 1 ∙ ap (λ (x : ℕ). v / 2 ^ x) e in
    let d : v / 2 ^ (w - 1 - n) % 2 ≡ cond (bit_of bs (p + n)) 1 0 =
    digit-bit_at v (w - 1 - n) ∙ ap (λ b. cond b 1 0) (sym (f n (omega arith))) in
    rw g (omega arith)

-- a field that was written has the number
pub field-written : {bs bs' : List ℕ} {p w v : ℕ} → v < 2 ^ w → Written bs bs' p w v w → field bs' p w ≡ v
field-written {bs} {bs'} {p} {w} {v} hv so =
    let z : w - w ≡ 0 = omega arith in
    field-front bs' p w v w hv (omega arith) so.inside ∙ rw z (omega arith)

-- the bits of a field
pub bit-field : (bs : List ℕ) (p w k : ℕ) → k < w → bit_at (field bs p w) (w - 1 - k) ≡ bit_of bs (p + k)
unfolding field
bit-field bs p zero k h = absurd (omega arith)
bit-field bs p (suc w) k h =
    ⊎_elim
    (λ e. let z : suc w - 1 - k ≡ 0 = omega arith in
    rw (z, bit_at-zero) (rw e (low (field bs p w) (bit_of bs (p + w)))))
    (λ ne. let s : suc w - 1 - k ≡ suc (w - 1 - k) = omega arith in
    rw (s, bit_at-suc) (ap (λ (x : ℕ). bit_at x (w - 1 - k)) (omega (arith, bit_le (bit_of bs (p + w)))) ∙ bit-field bs p w k (omega arith)))
    (cases_eq k w)
  where
    low : (x : ℕ) (b : Bool) → eqb ((x * 2 + cond b 1 0) % 2) 1 ≡ b
    low x true = eq-eqb _ _ (omega arith)
    low x false = ne_eqb _ _ (λ e. omega arith)

-- two lists of bytes with the same bits are equal
pub same_bytes : (bs cs : List ℕ) → length bs ≡ length cs → ((j : ℕ) → j < length bs → get_or bs j 0 < 2 ^ 8) → ((j : ℕ) → j < length cs → get_or cs j 0 < 2 ^ 8)
    → ((i : ℕ) → bit_of bs i ≡ bit_of cs i) → bs ≡ cs
unfolding bit_of
same_bytes bs cs l hb hc f =
    ext_get_or 0 bs cs l (λ j hj. same-from-bits 8 _ _ (hb j hj) (hc j (omega arith)) (λ k hk.
    let q : (8 * j + (7 - k)) / 8 ≡ j = omega arith in
    let r : 7 - (8 * j + (7 - k)) % 8 ≡ k = omega arith in
    let e : bit_at (get_or bs ((8 * j + (7 - k)) / 8) 0) (7 - (8 * j + (7 - k)) % 8) ≡ bit_at (get_or cs ((8 * j + (7 - k)) / 8) 0) (7 - (8 * j + (7 - k)) % 8) = f (8 * j + (7 - k)) in
    rw (q, r) at e))

-- a field that is read and written again leaves every bit
pub same_bits : {bs bs' : List ℕ} {p w : ℕ} → Written bs bs' p w (field bs p w) w → (i : ℕ) → bit_of bs' i ≡ bit_of bs i
same_bits {bs} {bs'} {p} {w} so i =
    ⊎_elim (λ b. so.before i b)
    (λ nb. ⊎_elim
    (λ n. let s : p + (i - p) ≡ i = omega arith in
    let e : bit_of bs' (p + (i - p)) ≡ bit_of bs (p + (i - p)) = so.inside (i - p) (omega arith) ∙ bit-field bs p w (i - p) (omega arith) in
    rw s at e)
    (λ a. so.after i a) (cases_lt i (p + w)))
    (cases_lt i p)

-- ---- fields side by side

pub field-append : (bs : List ℕ) (p v w : ℕ) → field bs p (v + w) ≡ field bs p v * 2 ^ w + field bs (p + v) w
unfolding field
field-append bs p v zero = let z : v + 0 ≡ v = omega arith in rw z (omega arith)
field-append bs p v (suc w) =
    let s : v + suc w ≡ suc (v + w) = omega arith in
    let t : p + (v + w) ≡ p + v + w = omega arith in
    rw s (rw t (omega (arith, field-append bs p v w, pow-suc 2 w, mul_assoc (field bs p v) (2 ^ w) 2, ap (λ (x : ℕ). field bs p v * x) (pow-suc 2 w))))

-- a part of a field
pub field-part : (bs : List ℕ) (p a w s : ℕ) → field bs p (a + w + s) / 2 ^ s % 2 ^ w ≡ field bs (p + a) w
field-part bs p a w s =
    ap (λ (x : ℕ). x / 2 ^ s % 2 ^ w) (field-append bs p (a + w) s)
    ∙ ap (λ (x : ℕ). x % 2 ^ w) (shr_high (field bs p (a + w)) s (field bs (p + (a + w)) s) (field_lt bs (p + (a + w)) s) ∙ field-append bs p a w)
    ∙ mod_low (field bs p a) w (field bs (p + a) w) (field_lt bs (p + a) w)

-- a byte is a field
pub field-byte : (bs : List ℕ) (j : ℕ) → get_or bs j 0 < 2 ^ 8 → field bs (8 * j) 8 ≡ get_or bs j 0
unfolding bit_of
field-byte bs j h =
    same-from-bits 8 _ _ (field_lt bs (8 * j) 8) h (λ k hk.
    let e : 8 - 1 - (7 - k) ≡ k = omega arith in
    let q : (8 * j + (7 - k)) / 8 ≡ j = omega arith in
    let r : 7 - (8 * j + (7 - k)) % 8 ≡ k = omega arith in
    let b : bit_at (field bs (8 * j) 8) (8 - 1 - (7 - k)) ≡ bit_at (get_or bs ((8 * j + (7 - k)) / 8) 0) (7 - (8 * j + (7 - k)) % 8) = bit-field bs (8 * j) 8 (7 - k) (omega arith) in
    rw (e, q, r) at b)

-- three bytes are a field of 24 bits
pub field-three : (bs : List ℕ) (j : ℕ) → get_or bs j 0 < 2 ^ 8 → get_or bs (j + 1) 0 < 2 ^ 8 → get_or bs (j + 2) 0 < 2 ^ 8
    → field bs (8 * j) 24 ≡ get_or bs j 0 * 65536 + get_or bs (j + 1) 0 * 256 + get_or bs (j + 2) 0
field-three bs j h m l =
    let p1 : 8 * j + 8 ≡ 8 * (j + 1) = omega arith in
    let p2 : 8 * j + 16 ≡ 8 * (j + 2) = omega arith in
    let ea = field-append bs (8 * j) 16 8 in
    let eb = field-append bs (8 * j) 8 8 in
    omega (
      arith,
      ea,
      eb,
      field-byte bs j h,
      field-byte bs (j + 1) m,
      field-byte bs (j + 2) l,
      ap (λ (x : ℕ). field bs x 8) p1,
      ap (λ (x : ℕ). field bs x 8) p2,
    )

-- four bytes are a field of 32 bits, and their parts are fields
pub field-four : (bs : List ℕ) → get_or bs 0 0 < 2 ^ 8 → get_or bs 1 0 < 2 ^ 8 → get_or bs 2 0 < 2 ^ 8 → get_or bs 3 0 < 2 ^ 8
    → field bs 0 32 ≡ get_or bs 0 0 * 16777216 + get_or bs 1 0 * 65536 + get_or bs 2 0 * 256 + get_or bs 3 0
field-four bs a b c d =
    omega (arith, field-append bs 0 24 8, field-three bs 0 a b c, field-byte bs 3 d)

-- the three fields of a header, from its four bytes
pub header-fields : (bs : List ℕ) (word : ℕ) → get_or bs 0 0 < 2 ^ 8 → get_or bs 1 0 < 2 ^ 8 → get_or bs 2 0 < 2 ^ 8 → get_or bs 3 0 < 2 ^ 8
    → word ≡ get_or bs 0 0 * 16777216 + get_or bs 1 0 * 65536 + get_or bs 2 0 * 256 + get_or bs 3 0
    → (word / 134217728 ≡ field bs 0 5) × (word / 131072 % 1024 ≡ field bs 5 10) × (word % 131072 ≡ field bs 15 17)
header-fields bs word a b c d e =
    let w : word ≡ field bs 0 32 = e ∙ sym (field-four bs a b c d) in
    let kind : word / 134217728 % 32 ≡ field bs 0 5 = ap (λ (x : ℕ). x / 134217728 % 32) w ∙ field-part bs 0 0 5 27 in (
      omega (arith, field_lt bs 0 32),
      ap (λ (x : ℕ). x / 131072 % 1024) w ∙ field-part bs 0 5 10 17,
      omega (arith, ap (λ (x : ℕ). x / 1 % 131072) w, field-part bs 0 15 17 0),
    )

-- a field cut out of the window of three bytes that holds it
pub field-in-window : (bs : List ℕ) (p w x : ℕ) → w ≤ 17 → x ≡ field bs (8 * (p / 8)) 24
    → bit_and (x / 2 ^ (24 - p % 8 - w)) ((1 * 2 ^ w) % 2 ^ 32 - 1) ≡ field bs p w
field-in-window bs p w x hw is =
    let one = one_shl w 32 (omega arith) in
    let s : ℕ = 24 - p % 8 - w in
    let e : p % 8 + w + (24 - p % 8 - w) ≡ 24 = omega arith in
    let q : 8 * (p / 8) + p % 8 ≡ p = omega arith in
    let n : x ≡ field bs (8 * (p / 8)) (p % 8 + w + s) = is ∙ ap (λ (i : ℕ). field bs (8 * (p / 8)) i) (sym e) in
    rw (one, and_mask, n) (field-part bs (8 * (p / 8)) (p % 8) w s ∙ ap (λ (i : ℕ). field bs i w) q)

-- ---- a field that a write does not touch

pub field-same : (bs cs : List ℕ) (q u : ℕ) → ((k : ℕ) → k < u → bit_of bs (q + k) ≡ bit_of cs (q + k)) → field bs q u ≡ field cs q u
unfolding field
field-same bs cs q zero f = refl
field-same bs cs q (suc u) f =
    ap₂ (λ (x : ℕ) (b : Bool). x * 2 + cond b 1 0) (field-same bs cs q u (λ k h. f k (omega arith))) (f u (omega arith))

pub field-before : {bs bs' : List ℕ} {p w v n : ℕ} → Written bs bs' p w v n → (q u : ℕ) → q + u ≤ p → field bs' q u ≡ field bs q u
field-before {bs} {bs'} so q u h = field-same bs' bs q u (λ k hk. so.before (q + k) (omega arith))

pub field-after : {bs bs' : List ℕ} {p w v n : ℕ} → Written bs bs' p w v n → (q u : ℕ) → p + n ≤ q → field bs' q u ≡ field bs q u
field-after {bs} {bs'} so q u h = field-same bs' bs q u (λ k hk. so.after (q + k) (omega arith))
