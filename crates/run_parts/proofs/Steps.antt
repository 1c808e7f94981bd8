-- Parts of a pivot in the tables, one after another.
use Rattle.std.proofs.Common.{◌≡◌, ℕ, ◌+◌, ◌<◌, ◌≤◌, Bool, true, false, cond, ◌&&◌, ◌||◌, eqb, ◌≢◌, ◌⊎◌, List, length, get_or, set, Some, None, sym, refl, ◌∙◌, inl, inr, ⊎_elim, arith}
use Rattle.std.proofs.lemmas.Bool.{cases_Bool, cases_lt, cases_eq, and_parts, eqb-true}
use Rattle.std.proofs.lemmas.Bool.Decides.{nat_tests}
use Rattle.elimination.specs.Graphs.{Graph}
use Rattle.plan_parts.specs.Layout.{places, cell, Closed}
use Rattle.plan_parts.specs.Reserves.{has_place}
use Rattle.run_parts.specs.Kinds.{Kind}
use Rattle.run_parts.specs.Square.{Square, taken, met, part, single, beyond}
use Rattle.run_parts.specs.Tables.{held_entry, square_of, Room}
use Rattle.run_parts.specs.Parts.{Pivoted, in_one, in_up_to}
use Rattle.plan_parts.proofs.Numbering.{cell_below, cell_out}
use Rattle.run_parts.proofs.Parts.{part-on, part_off, part-like, part-more, met-no-left, met-no-right, set-square, kept_same, kept_more, kept_set, held-cell, closed-cell, square-some, square-none}

module _ {E : Type 0} (K : Kind E) (F : Graph) (n k : ℕ) where
  pub away : (D : ℕ → ℕ → Bool) (es : List E) (ms : List ℕ) (es' : List E) (ms' : List ℕ) → Pivoted K F n k D es ms es' ms' → (a b : ℕ) → D a b ≡ false → square_of F n es' ms' a b ≡ square_of F n es ms a b
  away D es ms es' ms' h a b f = h.square a b ∙ part_off K k D (square_of F n es ms) a b f

  -- nothing chosen, nothing changed
  pub still : (es : List E) (ms : List ℕ) → Pivoted K F n k (λ a b. false) es ms es ms
  still es ms = record { square = λ a b. sym (part_off K k (λ a b. false) (square_of F n es ms) a b refl); kept = kept_same (places F n) es ms }

  -- the choice matters only where left and right are held
  pub chosen-as : (D C : ℕ → ℕ → Bool) (es : List E) (ms : List ℕ) (es' : List E) (ms' : List ℕ)
      → ((a b : ℕ) → (D a b ≡ C a b) ⊎ ((square_of F n es ms a k ≡ None) ⊎ (square_of F n es ms b k ≡ None)))
      → Pivoted K F n k D es ms es' ms' → Pivoted K F n k C es ms es' ms'
  chosen-as D C es ms es' ms' only h = record { square = λ a b. h.square a b ∙ like a b; kept = h.kept }
    where
      S : Square E
      S = square_of F n es ms

      idle : (B : ℕ → ℕ → Bool) (a b : ℕ) → (S a k ≡ None) ⊎ (S b k ≡ None) → part K k B S a b ≡ S a b
      idle B a b e = elim (cases_Bool (B a b)) [
        | inl t ↦ part-on K k B S a b t ∙ ⊎_elim (met-no-left K (S a b) (S a k) (S k k) (S b k)) (met-no-right K (S a b) (S a k) (S k k) (S b k)) e
        | inr f ↦ part_off K k B S a b f
      ]

      like : (a b : ℕ) → part K k D S a b ≡ part K k C S a b
      like a b = ⊎_elim
          (λ (e : D a b ≡ C a b). part-like K k D C S S (λ x y. refl) a b e)
          (λ (e : (S a k ≡ None) ⊎ (S b k ≡ None)). idle D a b e ∙ sym (idle C a b e))
          (only a b)

  pub and_then : (D₁ D₂ D₃ : ℕ → ℕ → Bool) (es : List E) (ms : List ℕ) (es' : List E) (ms' : List ℕ) (es'' : List E) (ms'' : List ℕ)
      → ((a : ℕ) → D₁ a k ≡ false) → ((a b : ℕ) → D₂ a b ≡ true → D₁ a b ≡ false) → ((a b : ℕ) → D₃ a b ≡ (D₁ a b || D₂ a b))
      → Pivoted K F n k D₁ es ms es' ms' → Pivoted K F n k D₂ es' ms' es'' ms'' → Pivoted K F n k D₃ es ms es'' ms''
  and_then D₁ D₂ D₃ es ms es' ms' es'' ms'' none apart both one two = record {
    square = part-more K k D₁ D₂ D₃ (square_of F n es ms) (square_of F n es' ms') (square_of F n es'' ms'') none apart both one.square two.square;
    kept = kept_more (places F n) es ms es' ms' es'' ms'' one.kept two.kept;
  }

  -- no left, no right
  pub no-left : (i j : ℕ) (es : List E) (ms : List ℕ) → square_of F n es ms i k ≡ None → Pivoted K F n k (single i j) es ms es ms
  no-left i j es ms e = chosen-as (λ a b. false) (single i j) es ms es ms (λ a b. elim (cases_eq a i) [ inl w ↦ inr (inl (rw w e)) | inr w ↦ inl (grind (arith, nat_tests)) ]) (still es ms)

  pub no-right : (i j : ℕ) (es : List E) (ms : List ℕ) → square_of F n es ms j k ≡ None → Pivoted K F n k (in_one j i) es ms es ms
  no-right i j es ms e = chosen-as (λ a b. false) (in_one j i) es ms es ms (λ a b. elim (cases_eq b j) [ inl w ↦ inr (inr (rw w e)) | inr w ↦ inl (grind (arith, nat_tests)) ]) (still es ms)

  -- the write at one place
  pub written : (i j p : ℕ) (es : List E) (ms : List ℕ) (l q r : E) → Room F n es ms → cell F n i j ≡ Some p
      → square_of F n es ms i k ≡ Some l → square_of F n es ms k k ≡ Some q → square_of F n es ms j k ≡ Some r
      → Pivoted K F n k (single i j) es ms (set es p (taken K (held_entry es ms p) l q r)) (set ms p (cond (eqb (get_or ms p 0) 0) 1 (get_or ms p 0)))
  written i j p es ms l q r room here hl hq hr = record {
    square = λ a b. set-square F n i j p m es ms v here le lm some a b ∙ at a b;
    kept = kept_set (places F n) p m es ms v lt lm some keep one;
  }
    where
      S : Square E
      S = square_of F n es ms

      m : ℕ
      m = cond (eqb (get_or ms p 0) 0) 1 (get_or ms p 0)

      v : E
      v = taken K (held_entry es ms p) l q r

      lt : p < places F n
      lt = cell_below F n i j p here

      le : p < length es
      le = omega (arith, lt, room.0)

      lm : p < length ms
      lm = omega (arith, lt, room.1)

      some : m ≢ 0
      some = grind (arith, nat_tests)

      keep : (get_or ms p 0 ≡ 0 → ⊥) → m ≡ get_or ms p 0
      keep d = grind (arith, nat_tests)

      one : get_or ms p 0 ≡ 0 → m ≤ 1
      one e = grind (arith, nat_tests)

      at : (a b : ℕ) → cond (eqb a i && eqb b j) (Some v) (S a b) ≡ part K k (single i j) S a b
      at a b = elim (cases_Bool (single i j a b)) [
        | inl t ↦
            (let w = and_parts (eqb a i) (eqb b j) t in
            let ea : a ≡ i = eqb-true a i w.0 in
            let eb : b ≡ j = eqb-true b j w.1 in
            let o : S i j ≡ held_entry es ms p = square-some F n i j es ms p here in
            let x : met K (S a b) (S a k) (S k k) (S b k) ≡ Some v = rw (ea, eb, hl, hq, hr, o) refl in
            simp t (sym (part-on K k (single i j) S a b t ∙ x)))
        | inr f ↦ simp f (sym (part_off K k (single i j) S a b f))
      ]

  -- the rows of one column, and the columns, one after another
  pub row-none : (j : ℕ) (es : List E) (ms : List ℕ) → Pivoted K F n k (in_one j j) es ms es ms
  row-none j es ms = chosen-as (λ a b. false) (in_one j j) es ms es ms (λ a b. inl (grind (arith, nat_tests))) (still es ms)

  pub row_more : (j i : ℕ) (es : List E) (ms : List ℕ) (es' : List E) (ms' : List ℕ) (es'' : List E) (ms'' : List ℕ) → k < j → j ≤ i
      → Pivoted K F n k (in_one j i) es ms es' ms' → Pivoted K F n k (single i j) es' ms' es'' ms'' → Pivoted K F n k (in_one j (i + 1)) es ms es'' ms''
  row_more j i es ms es' ms' es'' ms'' kj ji = and_then (in_one j i) (single i j) (in_one j (i + 1)) es ms es' ms' es'' ms'' (λ a. grind (arith, nat_tests)) (λ a b t. grind (arith, nat_tests)) (λ a b. grind (arith, nat_tests))

  pub column-none : (es : List E) (ms : List ℕ) → Pivoted K F n k (in_up_to k n (k + 1)) es ms es ms
  column-none es ms = chosen-as (λ a b. false) (in_up_to k n (k + 1)) es ms es ms (λ a b. inl (grind (arith, nat_tests))) (still es ms)

  pub column-more : (j : ℕ) (es : List E) (ms : List ℕ) (es' : List E) (ms' : List ℕ) (es'' : List E) (ms'' : List ℕ) → k < j
      → Pivoted K F n k (in_up_to k n j) es ms es' ms' → Pivoted K F n k (in_one j n) es' ms' es'' ms'' → Pivoted K F n k (in_up_to k n (j + 1)) es ms es'' ms''
  column-more j es ms es' ms' es'' ms'' kj = and_then (in_up_to k n j) (in_one j n) (in_up_to k n (j + 1)) es ms es' ms' es'' ms'' (λ a. grind (arith, nat_tests)) (λ a b t. grind (arith, nat_tests)) (λ a b. grind (arith, nat_tests))

  -- what the column k has no place for meets nothing
  no_place : (a : ℕ) (es : List E) (ms : List ℕ) → has_place F n k a ≡ false → square_of F n es ms a k ≡ None
  unfolding cell
  no_place a es ms h = square-none F n a k es ms (simp h)

  out-of-rows : (a : ℕ) (es : List E) (ms : List ℕ) → n ≤ a → square_of F n es ms a k ≡ None
  out-of-rows a es ms h = square-none F n a k es ms (cell_out F n a k h)

  pub row-skip : (j from i : ℕ) (es : List E) (ms : List ℕ) (es' : List E) (ms' : List ℕ) → ((a : ℕ) → from ≤ a → a < i → has_place F n k a ≡ false) → from ≤ i
      → Pivoted K F n k (in_one j from) es ms es' ms' → Pivoted K F n k (in_one j i) es ms es' ms'
  row-skip j from i es ms es' ms' none le = chosen-as (in_one j from) (in_one j i) es ms es' ms'
      (λ a b. elim (cases_lt a from) [
        | inl lt ↦ inl (grind (arith, nat_tests))
        | inr ge ↦ elim (cases_lt a i) [
          | inl lt ↦ inr (inl (no_place a es ms (none a ge lt)))
          | inr high ↦ inl (grind (arith, nat_tests))
        ]
      ])

  pub row-all : (j from : ℕ) (es : List E) (ms : List ℕ) (es' : List E) (ms' : List ℕ) → ((a : ℕ) → from ≤ a → a < n → has_place F n k a ≡ false)
      → Pivoted K F n k (in_one j from) es ms es' ms' → Pivoted K F n k (in_one j n) es ms es' ms'
  row-all j from es ms es' ms' none = chosen-as (in_one j from) (in_one j n) es ms es' ms'
      (λ a b. elim (cases_lt a n) [
        | inl lt ↦ elim (cases_lt a from) [
          | inl low ↦ inl (grind (arith, nat_tests))
          | inr ge ↦ inr (inl (no_place a es ms (none a ge lt)))
        ]
        | inr ge ↦ inr (inl (out-of-rows a es ms ge))
      ])

  pub column-skip : (from j : ℕ) (es : List E) (ms : List ℕ) (es' : List E) (ms' : List ℕ) → ((b : ℕ) → from ≤ b → b < j → has_place F n k b ≡ false) → from ≤ j
      → Pivoted K F n k (in_up_to k n from) es ms es' ms' → Pivoted K F n k (in_up_to k n j) es ms es' ms'
  column-skip from j es ms es' ms' none le = chosen-as (in_up_to k n from) (in_up_to k n j) es ms es' ms'
      (λ a b. elim (cases_lt b from) [
        | inl lt ↦ inl (grind (arith, nat_tests))
        | inr ge ↦ elim (cases_lt b j) [
          | inl lt ↦ inr (inr (no_place b es ms (none b ge lt)))
          | inr high ↦ inl (grind (arith, nat_tests))
        ]
      ])

  pub column-all : (from : ℕ) (es : List E) (ms : List ℕ) (es' : List E) (ms' : List ℕ) → ((b : ℕ) → from ≤ b → b < n → has_place F n k b ≡ false)
      → Pivoted K F n k (in_up_to k n from) es ms es' ms' → Pivoted K F n k (beyond k) es ms es' ms'
  column-all from es ms es' ms' none = chosen-as (in_up_to k n from) (beyond k) es ms es' ms'
      (λ a b. elim (cases_lt a n) [
        | inl lt ↦ elim (cases_lt b from) [
          | inl low ↦ inl (grind (arith, nat_tests))
          | inr ge ↦ elim (cases_lt b n) [
            | inl within ↦ inr (inr (no_place b es ms (none b ge within)))
            | inr high ↦ inl (grind (arith, nat_tests))
          ]
        ]
        | inr ge ↦ inr (inl (out-of-rows a es ms ge))
      ])

  pub wrote : (i j p : ℕ) (es : List E) (ms : List ℕ) (es' : List E) (ms' : List ℕ) (l q r : E)
      → es' ≡ set es p (taken K (held_entry es ms p) l q r) → ms' ≡ set ms p (cond (eqb (get_or ms p 0) 0) 1 (get_or ms p 0))
      → Room F n es ms → cell F n i j ≡ Some p
      → square_of F n es ms i k ≡ Some l → square_of F n es ms k k ≡ Some q → square_of F n es ms j k ≡ Some r
      → Pivoted K F n k (single i j) es ms es' ms'
  wrote i j p es ms es' ms' l q r e f room here hl hq hr = rw (e, f) (written i j p es ms l q r room here hl hq hr)

  -- a closed reserve has the place
  pub has-place : (i j : ℕ) (es : List E) (ms : List ℕ) (l r : E) → Closed F n → k < j → j ≤ i → square_of F n es ms i k ≡ Some l → square_of F n es ms j k ≡ Some r → cell F n i j ≡ None → ⊥
  has-place i j es ms l r closed kj ji hl hr none =
      let a = held-cell F n i k es ms l hl in
      let b = held-cell F n j k es ms r hr in
      let x = closed-cell F n i j k a.0 b.0 closed kj ji a.1 b.1 in
      let y : None ≡ Some x.0 = sym none ∙ x.1 in
      cc

  -- a part leaves the column k alone
  pub row-away : (j i : ℕ) (es : List E) (ms : List ℕ) (es' : List E) (ms' : List ℕ) → k < j → Pivoted K F n k (in_one j i) es ms es' ms' → (a : ℕ) → square_of F n es' ms' a k ≡ square_of F n es ms a k
  row-away j i es ms es' ms' kj h a = away (in_one j i) es ms es' ms' h a k (grind (arith, nat_tests))

  pub column-away : (j : ℕ) (es : List E) (ms : List ℕ) (es' : List E) (ms' : List ℕ) → Pivoted K F n k (in_up_to k n j) es ms es' ms' → (a : ℕ) → square_of F n es' ms' a k ≡ square_of F n es ms a k
  column-away j es ms es' ms' h a = away (in_up_to k n j) es ms es' ms' h a k (grind (arith, nat_tests))
