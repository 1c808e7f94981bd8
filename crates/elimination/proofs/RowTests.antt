-- Rows word by word: the next member, a row in another, common members, and counts.
use Rattle.std.proofs.Common.{◌≡◌, ℕ, zero, suc, ◌+◌, ◌-◌, ◌*◌, ◌/◌, ◌%◌, ◌^◌, ◌<◌, ◌≤◌, Bool, true, false, not, ◌&&◌, ◌||◌, eqb, ltb, ◌⊎◌, List, length, get_or, take, drop, set, Some, None, Decides, MatchBool, Option, sym, refl, ap, ◌∙◌, ap₂, inl, inr, ⊎_elim, subst, pow-suc, arith, get_or-take}
use borrow.Rule.Slice.PartMut.{put_mid}
use Rattle.std.specs.List.{AllWithin, HoldsAt, between, fold, range_with_len, sum_by}
use Rattle.std.proofs.lemmas.List.{get_or-drop, get_or-set_same, get_or-set_other}
use Rattle.std.proofs.lemmas.List.FromFn.{get_or-range_with_len}
use Rattle.std.proofs.lemmas.Slice.{between-put_mid, drop-put_mid, take-put_mid_below}
use mathlib.Core.Path.{fun_ext}
use lib.Count.{ones, count_trailing_zeros, under}
use lib.Bits.{bit_and, bit_or, and_le_l}
use Rattle.std.proofs.Math.Bool.{or-false}
use Rattle.std.proofs.lemmas.Bool.{both_ways, cases_Bool, cases_eq, cases_lt, cases_order, eqb-true, eq-eqb, ne_eqb, or_cases, or_left, or_right, and_parts, le-ltb, lt-ltb, ltb-true}
use Rattle.std.proofs.lemmas.Bool.Decides.{nat_tests}
use Rattle.std.proofs.lemmas.Nat.{one_shl}
use Rattle.network.specs.Bits.{bit_at, count_to}
use Rattle.network.specs.Net.{next_coupled}
use Rattle.network.specs.Laws.{FirstIs}
use Rattle.network.proofs.Bits.{bit_at-none, bit_at-zero, bit_at-suc, bit_at-or, bit_at-and, bit_at-pow, bit_at-not, bits-within, within-bits, count_to-add, count_to-same, ones-bits}
use Rattle.network.proofs.Nexts.{next-smallest}
use Rattle.elimination.specs.Elimination.{pairs_below}
use Rattle.elimination.specs.Graphs.{Graph}
use Rattle.elimination.specs.Orders.{up_to}
use Rattle.elimination.specs.Words.{WordFirst, WordNone, WordWithin, has, rows, row_taken, in_row, next_of, has_common_within, word_count}
use Rattle.elimination.specs.Words as words
use Rattle.elimination.proofs.Relations.{Meets, every_in, in-every, in-up_to}
use Rattle.elimination.proofs.Rows.{rows-has, rows-below, rows-past, rows_are}
use Rattle.elimination.proofs.Walks.{count-lower, pairs-more, pairs-none}

-- ---- the lowest set bit

pub trailing-low : (w n j : ℕ) → j < count_trailing_zeros w n → bit_at n j ≡ false
unfolding count_trailing_zeros
trailing-low zero n j h = absurd (let no : ⊥ = omega arith in no)
trailing-low (suc w) n j h = digit (n % 2) refl h (λ i. trailing-low w (n / 2) i)
  where
    rest : (j : ℕ) → n % 2 ≡ 0 → j < suc (count_trailing_zeros w (n / 2)) → ((i : ℕ) → i < count_trailing_zeros w (n / 2) → bit_at (n / 2) i ≡ false) → bit_at n j ≡ false
    rest zero e h ih = bit_at-zero n ∙ ap (λ (x : ℕ). eqb x 1) e
    rest (suc j) e h ih = bit_at-suc n j ∙ ih j (omega arith)

    digit : (d : ℕ) → n % 2 ≡ d → j < under d (count_trailing_zeros w (n / 2)) → ((i : ℕ) → i < count_trailing_zeros w (n / 2) → bit_at (n / 2) i ≡ false) → bit_at n j ≡ false
    digit zero e h ih = rest j e h ih
    digit (suc d) e h ih = absurd (let no : ⊥ = omega arith in no)

pub trailing-bit : (w n : ℕ) → n < 2 ^ w → (n ≡ 0 → ⊥) → (count_trailing_zeros w n < w) × (bit_at n (count_trailing_zeros w n) ≡ true)
unfolding count_trailing_zeros
trailing-bit zero n h ne = absurd (ne (omega arith))
trailing-bit (suc w) n h ne = digit (n % 2) refl (trailing-bit w (n / 2))
  where
    digit : (d : ℕ) → n % 2 ≡ d → (n / 2 < 2 ^ w → (n / 2 ≡ 0 → ⊥) → (count_trailing_zeros w (n / 2) < w) × (bit_at (n / 2) (count_trailing_zeros w (n / 2)) ≡ true))
        → (under d (count_trailing_zeros w (n / 2)) < suc w) × (bit_at n (under d (count_trailing_zeros w (n / 2))) ≡ true)
    digit zero e ih =
        let t = ih (omega (arith, pow-suc 2 w)) (λ z. ne (omega arith)) in
        (omega (arith, t.0), bit_at-suc n (count_trailing_zeros w (n / 2)) ∙ t.1)
    digit (suc d) e ih = (omega arith, bit_at-zero n ∙ (let one : n % 2 ≡ 1 = omega arith in ap (λ (x : ℕ). eqb x 1) one))

-- ---- the next member

first-same : (p : ℕ → Bool) (low high : ℕ) (o q : Option ℕ) → FirstIs p low high o → FirstIs p low high q → o ≡ q
first-same p low high None None f g = refl
first-same p low high None (Some u) f g = absurd (both_ways (p u) (f u g.0 g.1) g.2)
first-same p low high (Some t) None f g = absurd (both_ways (p t) (g t f.0 f.1) f.2)
first-same p low high (Some t) (Some u) f g =
    ⊎_elim (λ (e : t ≡ u). ap (λ (x : ℕ). Some x) e)
    (⊎_elim (λ (lt : t < u). absurd (both_ways (p t) (g.3 t f.0 lt) f.2)) (λ (lt : u < t). absurd (both_ways (p u) (f.3 u g.0 lt) g.2)))
    (cases_order t u)

pub next-is : (G : Graph) (a from : ℕ) → FirstIs (G a) from 512 (next_of G a from)
unfolding next_coupled
next-is G a from = next-smallest (record { size = 512; coupled = G }) a from

-- what has the law of the next member is the next member
pub is-next : (G : Graph) (a from : ℕ) (o : Option ℕ) → FirstIs (G a) from 512 o → o ≡ next_of G a from
is-next G a from o f = first-same (G a) from 512 o (next_of G a from) f (next-is G a from)

-- ---- a row word by word

pub has_in : (ws : List ℕ) (a k x : ℕ) → x / 64 ≡ k → has ws a x ≡ bit_at (get_or ws (a * 8 + k) 0) (x % 64)
unfolding has
has_in ws a k x e = ap (λ (i : ℕ). bit_at (get_or ws (a * 8 + i) 0) (x % 64)) e

-- the station j of the word k
pub has_word : (ws : List ℕ) (a k j : ℕ) → j < 64 → has ws a (64 * k + j) ≡ bit_at (get_or ws (a * 8 + k) 0) j
has_word ws a k j h =
    has_in ws a k (64 * k + j) (omega arith) ∙ ap (λ (i : ℕ). bit_at (get_or ws (a * 8 + k) 0) i) (omega arith)

-- ---- the next member of a row

pub row_has : (row : List ℕ) (b : ℕ) → b < 512 → in_row row b ≡ bit_at (get_or row (b / 64) 0) (b % 64)
unfolding in_row
row_has row b h = simp (lt-ltb b 512 h)

pub row_below : (row : List ℕ) (b : ℕ) → in_row row b ≡ true → b < 512
unfolding in_row
row_below row b h = ltb-true b 512 (and_parts (ltb b 512) (bit_at (get_or row (b / 64) 0) (b % 64)) h).0

-- the words of the row a
pub row-of : (ws row : List ℕ) (a : ℕ) → a < 512 → row ≡ take 8 (drop (a * 8) ws) → in_row row ≡ rows ws a
row-of ws row a ha e = fun_ext (λ b. ⊎_elim (λ (h : b < 512). here b h) (λ (h : 512 ≤ b). past b h) (cases_lt b 512))
  where
    here : (b : ℕ) → b < 512 → in_row row b ≡ rows ws a b
    here b h =
        row_has row b h
        ∙ ap (λ (w : ℕ). bit_at w (b % 64)) (ap (λ (r : List ℕ). get_or r (b / 64) 0) e ∙ get_or-take 8 (drop (a * 8) ws) (b / 64) 0 (omega arith) ∙ get_or-drop (a * 8) ws (b / 64) 0)
        ∙ sym (rows-has ws a b ha h ∙ has_in ws a (b / 64) b refl)

    past : (b : ℕ) → 512 ≤ b → in_row row b ≡ rows ws a b
    past b h = ⊎_elim (λ (t : in_row row b ≡ true). absurd (let l = row_below row b t in let no : ⊥ = omega arith in no)) (λ (f : in_row row b ≡ false). f ∙ sym (rows-past ws a b (inr h))) (cases_Bool (in_row row b))

row_word : (row : List ℕ) (k j : ℕ) → k < 8 → j < 64 → in_row row (64 * k + j) ≡ bit_at (get_or row k 0) j
row_word row k j hk hj =
    let d : (64 * k + j) / 64 ≡ k = omega arith in
    let m : (64 * k + j) % 64 ≡ j = omega arith in
    row_has row (64 * k + j) (omega arith) ∙ ap (λ (i : ℕ). bit_at (get_or row i 0) ((64 * k + j) % 64)) d ∙ ap (λ (i : ℕ). bit_at (get_or row k 0) i) m

-- the members not below `from` in the word k
pub word-from : (row : List ℕ) (from k l : ℕ) → k < 8 → l < 2 ^ 64 → ((j : ℕ) → j < 64 → bit_at l j ≡ ltb (64 * k + j) from)
    → (j : ℕ) → j < 64 → bit_at (bit_and (get_or row k 0) ((2 ^ 64 - 1) - l)) j ≡ (in_row row (64 * k + j) && not (ltb (64 * k + j) from))
word-from row from k l hk hl isLow j hj =
    bit_at-and (get_or row k 0) ((2 ^ 64 - 1) - l) j
    ∙ ap₂ (λ x y. x && y) (sym (row_word row k j hk hj)) (bit_at-not 64 l j hl hj ∙ ap not (isLow j hj))

-- the same in a word that has none below `from`
pub word-past : (row : List ℕ) (from k : ℕ) → k < 8 → from ≤ 64 * k → (j : ℕ) → j < 64 → bit_at (get_or row k 0) j ≡ (in_row row (64 * k + j) && not (ltb (64 * k + j) from))
word-past row from k hk h j hj =
    let no : ltb (64 * k + j) from ≡ false = le-ltb (64 * k + j) from (omega arith) in
    let e = row_word row k j hk hj in
    grind arith

-- w is the word k without the stations below `from`
module _ (row : List ℕ) (from k w : ℕ) (isWord : (j : ℕ) → j < 64 → bit_at w j ≡ (in_row row (64 * k + j) && not (ltb (64 * k + j) from))) where
  at-word : (x : ℕ) → 64 * k ≤ x → x < 64 * (k + 1) → (in_row row x && not (ltb x from)) ≡ bit_at w (x % 64)
  at-word x h g = let e : 64 * k + x % 64 ≡ x = omega arith in sym (isWord (x % 64) (omega arith) ∙ ap (λ (y : ℕ). in_row row y && not (ltb y from)) e)

  none-there : (x : ℕ) → from ≤ x → (in_row row x && not (ltb x from)) ≡ false → in_row row x ≡ false
  none-there x h e = let t = le-ltb x from h in grind arith

  pub word-none : w ≡ 0 → WordNone row from k
  word-none e x g h l = none-there x g (at-word x h l ∙ ap (λ (v : ℕ). bit_at v (x % 64)) e ∙ bit_at-none (x % 64))

  pub word-first : w < 2 ^ 64 → (w ≡ 0 → ⊥) → WordFirst row from k (64 * k + count_trailing_zeros 64 w)
  word-first small ne =
      let t = trailing-bit 64 w small ne in
      let z : ℕ = count_trailing_zeros 64 w in
      let lt : z < 64 = t.0 in
      let here : (in_row row (64 * k + z) && not (ltb (64 * k + z) from)) ≡ true = sym (isWord z lt) ∙ t.1 in
      let p = and_parts (in_row row (64 * k + z)) (not (ltb (64 * k + z) from)) here in
      (not-below (64 * k + z) p.1, omega arith, omega arith, p.0, λ x g h l. none-there x g (at-word x h (omega arith) ∙ trailing-low 64 w (x % 64) (omega arith)))
    where
      not-below : (x : ℕ) → not (ltb x from) ≡ true → from ≤ x
      not-below x h = grind (arith, nat_tests)

-- no word has a member not below `from`
pub first-none : (row : List ℕ) (from : ℕ) → ((k : ℕ) → from / 64 ≤ k → k < 8 → WordNone row from k) → FirstIs (in_row row) from 512 None
first-none row from f x g h = f (x / 64) (omega arith) (omega arith) x g (omega arith) (omega arith)

-- the word k has the first member, where the words before it have none
pub first-some : (row : List ℕ) (from k x : ℕ) → k < 8 → WordFirst row from k x → ((i : ℕ) → from / 64 ≤ i → i < k → WordNone row from i) → FirstIs (in_row row) from 512 (Some x)
first-some row from k x hk t before = (
  t.0,
  omega (arith, t.2),
  t.3,
  λ y g l. ⊎_elim (λ (lt : y < 64 * k). before (y / 64) (omega arith) (omega arith) y g (omega arith) (omega arith)) (λ (ge : 64 * k ≤ y). t.4 y g ge l) (cases_lt y (64 * k)),
)

-- ---- a row in another

-- the first k words of a part, which was the words from `base` on, have taken those of a row
abbrev pub Taken : List ℕ → List ℕ → List ℕ → ℕ → ℕ → Type 0
Taken part ws row base k = (j : ℕ) → (j < k → get_or part j 0 ≡ bit_or (get_or ws (base + j) 0) (get_or row j 0)) × (k ≤ j → j < 8 → get_or part j 0 ≡ get_or ws (base + j) 0)

pub taken-none : (ws row : List ℕ) (base n : ℕ) → n ≡ 8 → Taken (take n (drop base ws)) ws row base 0
taken-none ws row base n e j = ((λ h. absurd (let no : ⊥ = omega arith in no)), (λ g h. get_or-take n (drop base ws) j 0 (omega arith) ∙ get_or-drop base ws j 0))

pub taken-more : (part ws row : List ℕ) (base k : ℕ) → k < 8 → k < length part → Taken part ws row base k → Taken (set part k (bit_or (get_or part k 0) (get_or row k 0))) ws row base (k + 1)
taken-more part ws row base k hk room t j = at (cases_eq j k)
  where
    v : ℕ
    v = bit_or (get_or part k 0) (get_or row k 0)

    at : (j ≡ k) ⊎ (j ≡ k → ⊥) → (j < k + 1 → get_or (set part k v) j 0 ≡ bit_or (get_or ws (base + j) 0) (get_or row j 0)) × (k + 1 ≤ j → j < 8 → get_or (set part k v) j 0 ≡ get_or ws (base + j) 0)
    at (inl q) = (
      (λ h. rw q (get_or-set_same part k v 0 room ∙ ap (λ (w : ℕ). bit_or w (get_or row k 0)) ((t k).1 (omega arith) hk))),
      (λ g h. absurd (let no : ⊥ = omega arith in no)),
    )
    at (inr ne) = (
      (λ h. get_or-set_other part k j v 0 ne ∙ (t j).0 (omega arith)),
      (λ g h. get_or-set_other part k j v 0 ne ∙ (t j).1 (omega arith) h),
    )

-- the rows where a part of the words was written
module _ (ws part row : List ℕ) (a v n : ℕ) (l : length ws ≡ 4096) (ha : a < 512) (hv : v < 512) (e : n ≡ 8) (long : length part ≡ 8) (is : in_row row ≡ rows ws v) (t : Taken part ws row (a * 8) 8) where
  abbrev after : List ℕ
  after = put_mid (a * 8) n ws part

  fits : a * 8 ≤ length ws
  fits = omega arith

  written : (k : ℕ) → k < 8 → get_or after (a * 8 + k) 0 ≡ bit_or (get_or ws (a * 8 + k) 0) (get_or row k 0)
  written k h =
      let m : (a * 8 + 8) - a * 8 ≡ 8 = omega arith in
      let mid : between (a * 8) (a * 8 + 8) after ≡ part = between-put_mid (a * 8) n ws part (a * 8 + 8) fits (omega arith) in
      sym (get_or-drop (a * 8) after k 0) ∙ sym (get_or-take ((a * 8 + 8) - a * 8) (drop (a * 8) after) k 0 (omega arith)) ∙ ap (λ (xs : List ℕ). get_or xs k 0) mid ∙ (t k).0 h

  kept : (i : ℕ) → (i < a * 8) ⊎ (a * 8 + 8 ≤ i) → get_or after i 0 ≡ get_or ws i 0
  kept i (inl h) = sym (get_or-take (a * 8) after i 0 h) ∙ ap (λ (xs : List ℕ). get_or xs i 0) (take-put_mid_below (a * 8) n ws part (a * 8) (omega arith) fits) ∙ get_or-take (a * 8) ws i 0 h
  kept i (inr h) =
      let m : ℕ = i - (a * 8 + 8) in
      let q : (a * 8 + 8) + m ≡ i = omega arith in
      ap (λ (x : ℕ). get_or after x 0) (sym q) ∙ sym (get_or-drop (a * 8 + 8) after m 0)
      ∙ ap (λ (xs : List ℕ). get_or xs m 0) (drop-put_mid (a * 8) n ws part (a * 8 + 8) (omega arith) fits (omega arith))
      ∙ get_or-drop (a * 8 + 8) ws m 0 ∙ ap (λ (x : ℕ). get_or ws x 0) q

  pub rows-taken : rows (put_mid (a * 8) n ws part) ≡ row_taken (rows ws) a v
  rows-taken = rows_are after (row_taken (rows ws) a v) here past
    where
      past : (x y : ℕ) → (512 ≤ x) ⊎ (512 ≤ y) → row_taken (rows ws) a v x y ≡ false
      past x y h = gone x y h (rows-past ws x y h)
        where
          gone : (x y : ℕ) → (512 ≤ x) ⊎ (512 ≤ y) → rows ws x y ≡ false → row_taken (rows ws) a v x y ≡ false
          gone x y (inl h) p = let no : eqb x a ≡ false = ne_eqb x a (λ q. omega arith) in grind arith
          gone x y (inr h) p = let q = rows-past ws v y (inr h) in grind arith

      here : (x y : ℕ) → x < 512 → y < 512 → has after x y ≡ row_taken (rows ws) a v x y
      here x y hx hy = has_in after x (y / 64) y refl ∙ at (cases_eq x a)
        where
          at : (x ≡ a) ⊎ (x ≡ a → ⊥) → bit_at (get_or after (x * 8 + y / 64) 0) (y % 64) ≡ row_taken (rows ws) a v x y
          at (inl q) =
              let same : eqb x a ≡ true = eq-eqb x a q in
              let one : bit_at (get_or ws (a * 8 + y / 64) 0) (y % 64) ≡ rows ws x y = sym (has_in ws a (y / 64) y refl) ∙ sym (rows-has ws a y ha hy) ∙ ap (λ (b : ℕ). rows ws b y) (sym q) in
              let other : bit_at (get_or row (y / 64) 0) (y % 64) ≡ rows ws v y = sym (row_has row y hy) ∙ ap (λ (p : ℕ → Bool). p y) is in
              ap (λ (b : ℕ). bit_at (get_or after (b * 8 + y / 64) 0) (y % 64)) q ∙ ap (λ (w : ℕ). bit_at w (y % 64)) (written (y / 64) (omega arith))
              ∙ bit_at-or (get_or ws (a * 8 + y / 64) 0) (get_or row (y / 64) 0) (y % 64) ∙ ap₂ (λ b c. b || c) one other
              ∙ ap (λ (b : Bool). rows ws x y || (b && rows ws v y)) (sym same)
          at (inr ne) =
              let no : eqb x a ≡ false = ne_eqb x a ne in
              let out : (x * 8 + y / 64 < a * 8) ⊎ (a * 8 + 8 ≤ x * 8 + y / 64) = ⊎_elim (λ (lt : x < a). inl (omega arith)) (λ (ge : a ≤ x). inr (omega arith)) (cases_lt x a) in
              ap (λ (w : ℕ). bit_at w (y % 64)) (kept (x * 8 + y / 64) out) ∙ sym (has_in ws x (y / 64) y refl) ∙ sym (rows-has ws x y hx hy)
              ∙ sym (or-false (rows ws x y)) ∙ ap (λ (b : Bool). rows ws x y || (b && rows ws v y)) (sym no)

-- ---- common members

-- each station below n other than c that is in the rows a and b is in the row c
abbrev pub Rest : List ℕ → ℕ → ℕ → ℕ → ℕ → Type 0
Rest ws a b c n = (x : ℕ) → x < n → (x ≡ c → ⊥) → has ws a x ≡ true → has ws b x ≡ true → has ws c x ≡ true

module _ (ws : List ℕ) (a b c k t : ℕ) (ht : t < 2 ^ 64) (own : (j : ℕ) → j < 64 → bit_at t j ≡ (has ws c (64 * k + j) || eqb (64 * k + j) c)) where
  abbrev outside : ℕ
  outside = bit_and (bit_and (get_or ws (a * 8 + k) 0) (get_or ws (b * 8 + k) 0)) ((2 ^ 64 - 1) - t)

  pub within-from : outside ≡ 0 → WordWithin ws a b c k
  within-from e j hj ne p q =
      ⊎_elim (λ h. h) (λ h. absurd (ne (eqb-true _ _ h)))
      (or_cases _ _ (sym (own j hj) ∙ bits-within 64 _ _ _ ht e j hj (sym (has_word ws a k j hj) ∙ p) (sym (has_word ws b k j hj) ∙ q)))

  pub within-to : get_or ws (a * 8 + k) 0 < 2 ^ 64 → WordWithin ws a b c k → outside ≡ 0
  within-to hu all =
      within-bits 64 _ _ _ hu ht
      (λ j hj p q. own j hj
      ∙ ⊎_elim (λ e. grind (arith, nat_tests)) (λ ne. or_left _ _ (all j hj ne (has_word ws a k j hj ∙ p) (has_word ws b k j hj ∙ q)))
      (cases_eq (64 * k + j) c))

-- the word k of the row c, with c itself
pub own-here : (ws : List ℕ) (c k j : ℕ) → k ≡ c / 64 → j < 64
    → bit_at (bit_or (get_or ws (c * 8 + k) 0) ((1 * 2 ^ (c % 64)) % 2 ^ 64)) j ≡ (has ws c (64 * k + j) || eqb (64 * k + j) c)
own-here ws c k j e hj =
    rw (one_shl (c % 64) 64 (omega arith)) (rw bit_at-or (rw bit_at-pow
    (ap₂ (λ x y. x || y) (sym (has_word ws c k j hj)) (grind (arith, nat_tests)))))

pub own-other : (ws : List ℕ) (c k j : ℕ) → (k ≡ c / 64 → ⊥) → j < 64
    → bit_at (get_or ws (c * 8 + k) 0) j ≡ (has ws c (64 * k + j) || eqb (64 * k + j) c)
own-other ws c k j ne hj =
    let no : eqb (64 * k + j) c ≡ false = ne_eqb _ _ (λ q. ne (omega arith)) in
    sym (has_word ws c k j hj) ∙ rw no (sym (or-false (has ws c (64 * k + j))))

module _ (ws : List ℕ) (a b c : ℕ) (ha : a < 512) (hb : b < 512) (hc : c < 512) where
  meets-rest : Meets (rows ws) a b c → Rest ws a b c 512
  meets-rest m x hx ne p q = sym (rows-has ws c x hc hx) ∙ m x (λ e. ne (sym e)) (rows-has ws a x ha hx ∙ p) (rows-has ws b x hb hx ∙ q)

  rest_meets : Rest ws a b c 512 → Meets (rows ws) a b c
  rest_meets r x ne p q =
      let hx : x < 512 = (rows-below ws a x p).1 in
      rows-has ws c x hc hx ∙ r x hx (λ e. ne (sym e)) (sym (rows-has ws a x ha hx) ∙ p) (sym (rows-has ws b x hb hx) ∙ q)

common-decides : (n : ℕ) (G : Graph) (a b c : ℕ) (r : Bool) → ((x : ℕ) → G a x ≡ true → x < n) → r ≡ has_common_within n G a b c → Decides r (Meets G a b c)
unfolding has_common_within
common-decides n G a b c r small e = (λ t x ne p q. fails x ne p q (every_in test (up_to n) (sym e ∙ t) x (in-up_to n x (small x p))), λ m. e ∙ in-every test (up_to n) (λ x i. pass x m))
  where
    test : ℕ → Bool
    test x = not (G a x && (G b x && not (eqb x c))) || G c x

    pass : (x : ℕ) → Meets G a b c → test x ≡ true
    pass x m = cases (cases_eq c x) (G a x) refl (G b x) refl
      where
        cases : (c ≡ x) ⊎ (c ≡ x → ⊥) → (p : Bool) → G a x ≡ p → (q : Bool) → G b x ≡ q → (not (p && (q && not (eqb x c))) || G c x) ≡ true
        cases d false e q k = refl
        cases d true e false k = refl
        cases (inl d) true e true k = let i : eqb x c ≡ true = eq-eqb x c (sym d) in simp i
        cases (inr d) true e true k = or_right (not (not (eqb x c))) (G c x) (m x d e k)

    fails : (x : ℕ) → (c ≡ x → ⊥) → G a x ≡ true → G b x ≡ true → test x ≡ true → G c x ≡ true
    fails x ne p q t = let i : eqb x c ≡ false = ne_eqb x c (λ d. ne (sym d)) in let j : (not (G a x && (G b x && not (eqb x c))) || G c x) ≡ true = t in simp (p, q, i) at j

pub common-meets : (ws : List ℕ) (a b c : ℕ) (r : Bool) → r ≡ has_common_within 512 (rows ws) a b c → Decides r (Meets (rows ws) a b c)
common-meets ws a b c r e = common-decides 512 (rows ws) a b c r (λ x p. (rows-below ws a x p).1) e

module _ (ws : List ℕ) (a b c : ℕ) (ha : a < 512) (hb : b < 512) (hc : c < 512) where
  common-all : Rest ws a b c 512 → true ≡ has_common_within 512 (rows ws) a b c
  common-all r = sym ((common-meets ws a b c _ refl).1 (rest_meets ws a b c ha hb hc r))

  common-not : (Rest ws a b c 512 → ⊥) → false ≡ has_common_within 512 (rows ws) a b c
  common-not f = ⊎_elim (λ (t : has_common_within 512 (rows ws) a b c ≡ true). absurd (f (meets-rest ws a b c ha hb hc ((common-meets ws a b c _ refl).0 t)))) (λ (t : has_common_within 512 (rows ws) a b c ≡ false). sym t) (cases_Bool (has_common_within 512 (rows ws) a b c))

  place : (k : ℕ) → k < 8 → get_or (range_with_len 0 8) k 0 ≡ k
  place k h = omega (arith, get_or-range_with_len 0 8 k 0 h)

  -- what a test of each word finds
  pub common-words : (r : Bool)
      → MatchBool r (AllWithin (WordWithin ws a b c) (range_with_len 0 8) 0 8) ((k : ℕ) × (k < 8) × HoldsAt (λ k. WordWithin ws a b c k → ⊥) (range_with_len 0 8) k)
      → r ≡ has_common_within 512 (rows ws) a b c
  common-words true f = common-all whole
    where
      whole : Rest ws a b c 512
      whole x hx ne p q =
          let e : 64 * (x / 64) + x % 64 ≡ x = omega arith in
          let w : WordWithin ws a b c (x / 64) = subst (λ (k : ℕ). WordWithin ws a b c k) (place (x / 64) (omega arith)) (f (x / 64) 0 (omega arith) (omega arith)) in
          ap (has ws c) (sym e) ∙ w (x % 64) (omega arith) (λ i. ne (sym e ∙ i)) (ap (has ws a) e ∙ p) (ap (has ws b) e ∙ q)
  common-words false f = common-not (λ all. f.2 0 (subst (λ (k : ℕ). WordWithin ws a b c k) (sym (place f.0 f.1)) (λ j hj ne p q. all (64 * f.0 + j) (let lt : f.0 < 8 = f.1 in omega arith) ne p q)))

-- ---- the count of a row, word by word

pub count-word : (ws : List ℕ) (a lo hi k h l : ℕ) → a < 512 → k < 8 → get_or ws (a * 8 + k) 0 < 2 ^ 64 → l < 2 ^ 64
    → ((j : ℕ) → j < 64 → bit_at h j ≡ ltb (64 * k + j) hi) → ((j : ℕ) → j < 64 → bit_at l j ≡ ltb (64 * k + j) lo)
    → ones (bit_and (get_or ws (a * 8 + k) 0) (bit_and h ((2 ^ 64 - 1) - l))) ≡ word_count (rows ws) a lo hi k
count-word ws a lo hi k h l ha hk hw hl isHi isLo =
    let w : ℕ = bit_and (get_or ws (a * 8 + k) 0) (bit_and h ((2 ^ 64 - 1) - l)) in
    let small : w < 2 ^ 64 = omega (arith, and_le_l (get_or ws (a * 8 + k) 0) (bit_and h ((2 ^ 64 - 1) - l))) in
    sym (count_to-same _ (bit_at w) 64 (λ j hj.
    ap₂ (λ x y. x && y) (rows-has ws a (64 * k + j) ha (omega arith) ∙ has_word ws a k j hj)
    (ap₂ (λ x y. x && not y) (sym (isHi j hj)) (sym (isLo j hj))
    ∙ ap (λ y. bit_at h j && y) (sym (bit_at-not 64 l j hl hj)) ∙ sym (bit_at-and h ((2 ^ 64 - 1) - l) j))
    ∙ sym (bit_at-and (get_or ws (a * 8 + k) 0) (bit_and h ((2 ^ 64 - 1) - l)) j))
    ∙ sym (ones-bits 64 w small))

-- ---- sums over numbers in turn

-- what grows by f at each number is the sum of f
pub sum-steps : (f g : ℕ → ℕ) (b : ℕ) → ((k : ℕ) → k < b → g (k + 1) ≡ g k + f k) → (a n m : ℕ) → a + n ≤ b → m ≡ g a → fold (λ s k. s + f k) m (range_with_len a n) ≡ g (a + n)
sum-steps f g b step a zero m le e = e ∙ (let z : a ≡ a + 0 = omega arith in ap g z)
sum-steps f g b step a (suc n) m le e =
    let z : a + 1 + n ≡ a + suc n = omega arith in
    sum-steps f g b step (a + 1) n (m + f a) (omega arith) (ap (λ (x : ℕ). x + f a) e ∙ sym (step a (omega arith))) ∙ ap g z

count-start : (p : ℕ → Bool) → 0 ≡ count_to p 0
unfolding count_to
count-start p = refl

pub sum-words : (G : Graph) (a lo hi : ℕ) → sum_by (word_count G a lo hi) (range_with_len 0 8) ≡ count_to (words.between G a lo hi) 512
sum-words G a lo hi = sum-steps (word_count G a lo hi) (λ k. count_to (words.between G a lo hi) (64 * k)) 8 step 0 8 0 (omega arith) (count-start (words.between G a lo hi))
  where
    step : (k : ℕ) → k < 8 → count_to (words.between G a lo hi) (64 * (k + 1)) ≡ count_to (words.between G a lo hi) (64 * k) + word_count G a lo hi k
    step k h = let e : 64 * (k + 1) ≡ 64 * k + 64 = omega arith in ap (count_to (words.between G a lo hi)) e ∙ count_to-add (words.between G a lo hi) (64 * k) 64

pub sum-rows : (G : Graph) (n : ℕ) → n ≤ 512 → sum_by (λ a. count_to (words.between G a 0 a) 512) (range_with_len 0 n) ≡ pairs_below n G
sum-rows G n h = sum-steps (λ a. count_to (words.between G a 0 a) 512) (λ k. pairs_below k G) n step 0 n 0 (omega arith) (sym (pairs-none G)) ∙ (let z : 0 + n ≡ n = omega arith in ap (λ (k : ℕ). pairs_below k G) z)
  where
    step : (k : ℕ) → k < n → pairs_below (k + 1) G ≡ pairs_below k G + count_to (words.between G k 0 k) 512
    step k lt = pairs-more k G ∙ ap (λ (x : ℕ). pairs_below k G + x) (sym (count-lower G k (omega arith)))
