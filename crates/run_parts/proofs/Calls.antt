-- How each call carries the histories of a run on, with tables that hold the square.
use Rattle.std.proofs.Common.{◌≡◌, ℕ, ◌+◌, ◌<◌, ◌≤◌, Bool, true, false, cond, ◌||◌, ltb, List, length, get_or, set, is_some, Some, None, Ok, Err, Option, Result, sym, refl, ap, ◌∙◌, inl, inr, arith, length-set}
use Rattle.std.specs.List.{slice_get}
use Rattle.std.proofs.lemmas.Bool.{cases_eq, eq-eqb, ne_eqb, ltb-true, both_ways}
use Rattle.std.proofs.lemmas.Bool.Decides.{nat_tests}
use Rattle.elimination.specs.Graphs.{Graph}
use Rattle.plan_parts.specs.Layout.{places, place_for, cell, Closed}
use Rattle.network.specs.Refusals.{Fault}
use Rattle.plan_parts.specs.Reserves.{known, place_of_stations}
use Rattle.plan_parts.proofs.Numbering.{cell_below}
use Rattle.run_parts.specs.Kinds.{Kind}
use Rattle.run_parts.specs.Square.{Square, empty, pivot, pivotal, single, with_entry, beyond}
use Rattle.run_parts.specs.Tables.{square_of, held_entry, entries_over, marks_over, zeroed, Room, Within}
use Rattle.run_parts.specs.Parts.{Pivoted}
use Rattle.run_parts.specs.Outcomes.{roomy, checked_place_of, pivot_outcome, step_outcome}
use Rattle.run_parts.specs.Laws.{AnswersAreThoseOfTheSquare}
use Rattle.run_parts.specs.Histories.{RunHistory, Agrees, row_of, column_of}
use Rattle.run_parts.specs.Histories.Stage.{loading, running, ended}
use Rattle.run_parts.specs.Histories.RunHistory.{started, put, begun, stepped, finished}
use Rattle.run_parts.proofs.Parts.{part-like, set-square, square-some, square-none, nth-some, cell_within}
use Rattle.run_parts.proofs.Histories.{only-places}
use Rattle.run_parts.proofs.Written.{entries-written, marks-written}
use Rattle.run_parts.proofs.Zeroes.{zeroed-agrees}
use Rattle.plan_parts.specs.declared.reserve.Reserve.{Reserve}
use Rattle.plan_parts.specs.ReserveView.{filled_in, order_in, size_in}

module _ {E : Type 0} (F : Graph) (n : ℕ) (es : List E) (ms : List ℕ) (sq : Square E) where
  -- tables that hold a square, which holds entries only at places, are that square
  pub square-agrees : ((i j : ℕ) → is_some (sq i j) ≡ true → is_some (cell F n i j) ≡ true) → Agrees F n es ms sq → (i j : ℕ) → square_of F n es ms i j ≡ sq i j
  square-agrees within agrees i j = at (cell F n i j) refl (sq i j) refl
    where
      at : (o : Option ℕ) → cell F n i j ≡ o → (s : Option E) → sq i j ≡ s → square_of F n es ms i j ≡ sq i j
      at None here None h = square-none F n i j es ms here ∙ sym h
      at None here (Some e) h = absurd (both_ways (is_some (cell F n i j)) (ap is_some here) (within i j (ap is_some h)))
      at (Some p) here None h = square-some F n i j es ms p here ∙ simp (eq-eqb _ _ (agrees.marked i j p here h)) (sym h)
      at (Some p) here (Some e) h = elim (cases_eq (get_or ms p 0) 0) [
        | inl z ↦ (let x : None ≡ Some e = sym (agrees.unmarked i j p here z) ∙ h in cc)
        | inr d ↦ square-some F n i j es ms p here ∙ simp (ne_eqb _ _ d) (agrees.same i j p e here h ∙ sym h)
      ]

  -- and back, where the tables have room
  pub agrees-square : Room F n es ms → ((i j : ℕ) → square_of F n es ms i j ≡ sq i j) → Agrees F n es ms sq
  agrees-square room h = record {
    unmarked = λ i j p here z. sym (at i j p here) ∙ simp (eq-eqb _ _ z);
    marked = λ i j p here none. elim (cases_eq (get_or ms p 0) 0) [
      | inl z ↦ z
      | inr d ↦
          (let x = nth-some es p (omega (arith, cell_below F n i j p here, room.0)) in
          let e : slice_get es p ≡ held_entry es ms p = simp (ne_eqb _ _ d) in
          let w : Some x.0 ≡ None = sym x.1 ∙ e ∙ at i j p here ∙ none in
          cc)
    ];
    same = λ i j p e here some. elim (cases_eq (get_or ms p 0) 0) [
      | inl z ↦
          (let x : None ≡ held_entry es ms p = simp (eq-eqb _ _ z) in
          let w : None ≡ Some e = x ∙ at i j p here ∙ some in
          cc)
      | inr d ↦ (let x : slice_get es p ≡ held_entry es ms p = simp (ne_eqb _ _ d) in x ∙ at i j p here ∙ some)
    ];
  }
    where
      at : (i j p : ℕ) → cell F n i j ≡ Some p → held_entry es ms p ≡ sq i j
      at i j p here = sym (square-some F n i j es ms p here) ∙ h i j

module _ {E : Type 0} (K : Kind E) (F : Graph) (n : ℕ) (xs : List ℕ) (closed : Closed F n) (es : List E) (ms : List ℕ) (room : Room F n es ms) (es' : List E) (ms' : List ℕ) (sq : Square E) (P : Graph) where
  pub put-goes : (a b p : ℕ) (e : E) → a < n → b < n → place_of_stations F n xs a b ≡ Some p → es' ≡ set es p e → ms' ≡ set ms p 1 → RunHistory K F n xs loading 0 sq P → Agrees F n es ms sq
      → RunHistory K F n xs loading 0 (with_entry sq (row_of xs a b) (column_of xs a b) e) (λ i j. P i j || single (row_of xs a b) (column_of xs a b) i j) × Agrees F n es' ms' (with_entry sq (row_of xs a b) (column_of xs a b) e)
  unfolding place_for
  put-goes a b p e la lb here he hm h agrees =
      let i = row_of xs a b in
      let j = column_of xs a b in
      let lt : p < places F n = cell_below F n i j p here in
      let le : p < length es = omega (arith, lt, room.0) in
      let lm : p < length ms = omega (arith, lt, room.1) in
      let one : ◌≡◌ {A = ℕ} 1 0 → ⊥ = λ z. omega arith in
      let same = square-agrees F n es ms sq (only-places K F n xs loading 0 sq P closed h) agrees in
      let wrote : (x y : ℕ) → square_of F n es' ms' x y ≡ with_entry sq i j e x y =
      λ x y. rw (he, hm) (set-square F n i j p 1 es ms e here le lm one x y ∙ ap (λ s. cond (single i j x y) (Some e) s) (same x y)) in
      let room' : Room F n es' ms' = (omega (arith, room.0, ap length he ∙ length-set es p e), omega (arith, room.1, ap length hm ∙ length-set ms p 1)) in
      (put h a b e la lb (ap is_some here), agrees-square F n es' ms' (with_entry sq i j e) room' wrote)

  pub step-goes : (k : ℕ) → k < n → pivotal K (square_of F n es ms k k) ≡ true → Pivoted K F n k (beyond k) es ms es' ms' → RunHistory K F n xs running k sq P → Agrees F n es ms sq
      → RunHistory K F n xs running (k + 1) (pivot K k sq) P × Agrees F n es' ms' (pivot K k sq)
  step-goes k lt usable pivoted h agrees =
      let same = square-agrees F n es ms sq (only-places K F n xs running k sq P closed h) agrees in
      let room' : Room F n es' ms' = (omega (arith, room.0, pivoted.kept.entries), omega (arith, room.1, pivoted.kept.table)) in (
        stepped h lt (sym (ap (pivotal K) (same k k)) ∙ usable),
        agrees-square F n es' ms' (pivot K k sq) room' (λ i j. pivoted.square i j ∙ part-like K k (beyond k) (beyond k) (square_of F n es ms) sq same i j refl),
      )

-- an answer behind a test shows that the test was passed
passed_test : {X : Type 0} (b : Bool) (r : Result X Fault) (f : Fault) (x : X) → Ok x ≡ cond b r (Err f) → (b ≡ true) × (Ok x ≡ r)
passed_test true r f x h = (refl, h)
passed_test false r f x h = cc

found_none : {X : Type 0} (b : Bool) (r : Result X Fault) (f : Fault) (x : X) → Ok x ≡ cond b (Err f) r → (b ≡ false) × (Ok x ≡ r)
found_none true r f x h = cc
found_none false r f x h = (refl, h)

-- what a checked place says
pub record Checked (F : Graph) (n : ℕ) (xs : List ℕ) (entries marks a b : ℕ) (o : Option ℕ) : Type 0 where
  pub first : a < n
  pub second : b < n
  pub entries_long : places F n ≤ entries
  pub marks_long : places F n ≤ marks
  pub place : o ≡ place_of_stations F n xs a b

pub checked : (F : Graph) (n : ℕ) (xs : List ℕ) (entries marks a b : ℕ) (o : Option ℕ) → Ok o ≡ checked_place_of F n xs entries marks a b → Checked F n xs entries marks a b o
checked F n xs entries marks a b o h =
    let p = passed_test (ltb a n) _ _ o h in
    let q = passed_test (ltb b n) _ _ o p.1 in
    let r = found_none (ltb entries (places F n) || ltb marks (places F n)) _ _ o q.1 in
    let short : ltb entries (places F n) || ltb marks (places F n) ≡ false = r.0 in
    let e : Ok o ≡ Ok (place_of_stations F n xs a b) = r.1 in
    record { first = ltb-true a n p.0; second = ltb-true b n q.0; entries_long = grind (arith, nat_tests); marks_long = grind (arith, nat_tests); place = cc }

-- the place of two known stations lies within tables that have room
pub placed_within : {E : Type 0} (F : Graph) (n : ℕ) (xs : List ℕ) (a b : ℕ) (es : List E) (ms : List ℕ) (o : Option ℕ)
    → Ok o ≡ known n a (known n b (Ok (place_of_stations F n xs a b))) → Room F n es ms → Within (length es) (length ms) o
unfolding place_for
placed_within F n xs a b es ms o h room =
    let p = passed_test (ltb a n) _ _ o h in
    let e : Ok o ≡ Ok (place_of_stations F n xs a b) = (passed_test (ltb b n) _ _ o p.1).1 in
    let place : o ≡ place_of_stations F n xs a b = cc in
    cell_within F n (row_of xs a b) (column_of xs a b) es ms o place room

-- what entry answers and step decides, by the square
pub by_square : {E : Type 0} (K : Kind E) → AnswersAreThoseOfTheSquare K
unfolding square_of place_for
by_square {E} K F n xs stage k sq P es ms closed h agrees = (
  λ a b. ap (λ (o : Option E). known n a (known n b (roomy (places F n) (length es) (length ms) (Ok o)))) (same (row_of xs a b) (column_of xs a b)),
  λ made. ap (λ (o : Option E). step_outcome K (places F n) (length es) (length ms) n made o) (same made made),
)
  where
    same : (i j : ℕ) → square_of F n es ms i j ≡ sq i j
    same = square-agrees F n es ms sq (only-places K F n xs stage k sq P closed h) agrees

-- a pivot that was made could be made
pub pivot-made : {E : Type 0} (K : Kind E) (k : ℕ) (o : Option E) (x : Unit {0}) → Ok x ≡ pivot_outcome K k o → pivotal K o ≡ true
pivot-made K k o x h = (passed_test (pivotal K o) _ _ x h).0

-- how a run turns to its next stage
pub begins : {E : Type 0} (K : Kind E) (F : Graph) (n : ℕ) (xs : List ℕ) (sq : Square E) (P : Graph) → RunHistory K F n xs loading 0 sq P → RunHistory K F n xs running 0 sq P
begins K F n xs sq P h = begun h

pub finishes : {E : Type 0} (K : Kind E) (F : Graph) (n : ℕ) (xs : List ℕ) (k : ℕ) (sq : Square E) (P : Graph) → RunHistory K F n xs running k sq P → RunHistory K F n xs ended k sq P
finishes K F n xs k sq P h = finished h

-- what a start leaves
pub starts : {E : Type 0} (K : Kind E) (F : Graph) (n : ℕ) (xs : List ℕ) → RunHistory K F n xs loading 0 empty (λ i j. false)
starts K F n xs = started

pub empty_agrees : {E : Type 0} (F : Graph) (n : ℕ) (es : List E) (ms ms' : List ℕ) → ms' ≡ zeroed (places F n) ms → Agrees F n es ms' empty
empty_agrees F n es ms ms' e = rw e (zeroed-agrees F n es ms)

-- what a put leaves that was not refused
module _ {E : Type 0} (K : Kind E) (R : Reserve) (a b p : ℕ) (e : E) (es : List E) (ms : List ℕ) (sq : Square E) (P : Graph) (o : Option ℕ)
    (known : Ok o ≡ checked_place_of (filled_in R) (size_in R) (order_in R) (length es) (length ms) a b) (there : o ≡ Some p)
    (h : RunHistory K (filled_in R) (size_in R) (order_in R) loading 0 sq P) (agrees : Agrees (filled_in R) (size_in R) es ms sq) where
  pub put-done : RunHistory K (filled_in R) (size_in R) (order_in R) loading 0 (with_entry sq (row_of (order_in R) a b) (column_of (order_in R) a b) e) (λ i j. P i j || single (row_of (order_in R) a b) (column_of (order_in R) a b) i j)
      × Agrees (filled_in R) (size_in R) (set es p e) (set ms p 1) (with_entry sq (row_of (order_in R) a b) (column_of (order_in R) a b) e)
  put-done =
      let c = checked (filled_in R) (size_in R) (order_in R) (length es) (length ms) a b o known in
      put-goes K (filled_in R) (size_in R) (order_in R) R.closed es ms (c.entries_long, c.marks_long) (set es p e) (set ms p 1) sq P a b p e c.first c.second (sym c.place ∙ there) refl refl h agrees

-- what a step leaves that made its pivot
pub entries_after : {E : Type 0} (K : Kind E) (F : Graph) (n k : ℕ) (es : List E) (ms : List ℕ) (es' : List E) (ms' : List ℕ) → Room F n es ms → Pivoted K F n k (beyond k) es ms es' ms'
    → es' ≡ entries_over F n (pivot K k (square_of F n es ms)) es
entries_after K F n k es ms es' ms' room p = entries-written F n (pivot K k (square_of F n es ms)) es ms es' ms' room p.kept p.square

pub marks_after : {E : Type 0} (K : Kind E) (F : Graph) (n k : ℕ) (es : List E) (ms : List ℕ) (es' : List E) (ms' : List ℕ) → Room F n es ms → Pivoted K F n k (beyond k) es ms es' ms'
    → ms' ≡ marks_over F n (pivot K k (square_of F n es ms)) ms
marks_after K F n k es ms es' ms' room p = marks-written F n (pivot K k (square_of F n es ms)) es ms es' ms' room p.kept p.square

module _ {E : Type 0} (K : Kind E) (R : Reserve) (k : ℕ) (es : List E) (ms : List ℕ) (es' : List E) (ms' : List ℕ) (sq : Square E) (P : Graph)
    (room : Room (filled_in R) (size_in R) es ms) (lt : k < size_in R) (made : Ok tt ≡ pivot_outcome K k (square_of (filled_in R) (size_in R) es ms k k))
    (pivoted : Pivoted K (filled_in R) (size_in R) k (beyond k) es ms es' ms')
    (h : RunHistory K (filled_in R) (size_in R) (order_in R) running k sq P) (agrees : Agrees (filled_in R) (size_in R) es ms sq) where
  both : RunHistory K (filled_in R) (size_in R) (order_in R) running (k + 1) (pivot K k sq) P × Agrees (filled_in R) (size_in R) es' ms' (pivot K k sq)
  both = step-goes K (filled_in R) (size_in R) (order_in R) R.closed es ms room es' ms' sq P k lt (pivot-made K k (square_of (filled_in R) (size_in R) es ms k k) tt made) pivoted h agrees

  pub steps : (k' : ℕ) → k' ≡ k + 1 → RunHistory K (filled_in R) (size_in R) (order_in R) running k' (pivot K k sq) P
  steps k' e = rw e both.0

  pub pivot_agrees : Agrees (filled_in R) (size_in R) es' ms' (pivot K k sq)
  pivot_agrees = both.1
