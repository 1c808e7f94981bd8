-- The histories of a run: all that its calls can come to, in any sequence, refused calls and questions included.
use Rattle.std.specs.Prelude.{◌≡◌, ℕ, ◌+◌, ◌<◌, ◌≤◌, min, max, true, false, ◌||◌, ◌⊎◌, List, is_some, Some, None, slice_index}
use Rattle.std.specs.List.{slice_get}
use Rattle.elimination.specs.Graphs.{Graph}
use Rattle.elimination.specs.Orders.{position_of}
use Rattle.plan_parts.specs.Layout.{cell, places}
use Rattle.plan_parts.specs.Reserves.{place_of_stations}
use Rattle.run_parts.specs.Kinds.{Kind}
use Rattle.run_parts.specs.Square.{Square, empty, pivot, pivotal, single, with_entry}

pub data Stage : Type 0 where
  loading : Stage
  running : Stage
  ended : Stage

-- the row and the column of two stations in the order xs: the later and the earlier of their positions
abbrev pub row_of : List ℕ → ℕ → ℕ → ℕ
row_of xs a b = max (position_of xs a) (position_of xs b)

abbrev pub column_of : List ℕ → ℕ → ℕ → ℕ
column_of xs a b = min (position_of xs a) (position_of xs b)

-- a table that is shorter than the reserve
abbrev pub Short : ℕ → ℕ → ℕ → Type 0
Short need entries marks = (entries < need) ⊎ (marks < need)

-- A run over the order xs of n stations, whose filled pairs by positions are F, for entries of the kind K.
-- It tells the stage, how many pivots were made, the full square, and which of its places were put.
pub data RunHistory {E : Type 0} (K : Kind E) (F : Graph) (n : ℕ) (xs : List ℕ) : Stage → ℕ → Square E → Graph → Type 0 where
  started : RunHistory K F n xs loading 0 empty (λ i j. false)
  put : {sq : Square E} {P : Graph} → RunHistory K F n xs loading 0 sq P → (a b : ℕ) (e : E) → a < n → b < n → is_some (place_of_stations F n xs a b) ≡ true
      → RunHistory K F n xs loading 0 (with_entry sq (row_of xs a b) (column_of xs a b) e) (λ i j. P i j || single (row_of xs a b) (column_of xs a b) i j)
  put_first_unknown : {sq : Square E} {P : Graph} → RunHistory K F n xs loading 0 sq P → (a : ℕ) → n ≤ a
      → RunHistory K F n xs loading 0 sq P
  put_second_unknown : {sq : Square E} {P : Graph} → RunHistory K F n xs loading 0 sq P → (a b : ℕ) → a < n → n ≤ b
      → RunHistory K F n xs loading 0 sq P
  put_short : {sq : Square E} {P : Graph} → RunHistory K F n xs loading 0 sq P → (a b entries marks : ℕ) → a < n → b < n → Short (places F n) entries marks
      → RunHistory K F n xs loading 0 sq P
  put_without_place : {sq : Square E} {P : Graph} → RunHistory K F n xs loading 0 sq P → (a b : ℕ) → a < n → b < n → place_of_stations F n xs a b ≡ None
      → RunHistory K F n xs loading 0 sq P
  begun : {sq : Square E} {P : Graph} → RunHistory K F n xs loading 0 sq P → RunHistory K F n xs running 0 sq P
  stepped : {k : ℕ} {sq : Square E} {P : Graph} → RunHistory K F n xs running k sq P → k < n → pivotal K (sq k k) ≡ true
      → RunHistory K F n xs running (k + 1) (pivot K k sq) P
  step_finished : {sq : Square E} {P : Graph} → RunHistory K F n xs running n sq P → RunHistory K F n xs running n sq P
  step_short : {k : ℕ} {sq : Square E} {P : Graph} → RunHistory K F n xs running k sq P → (entries marks : ℕ) → Short (places F n) entries marks
      → RunHistory K F n xs running k sq P
  step_unusable : {k : ℕ} {sq : Square E} {P : Graph} → RunHistory K F n xs running k sq P → k < n → pivotal K (sq k k) ≡ false
      → RunHistory K F n xs running k sq P
  finished : {k : ℕ} {sq : Square E} {P : Graph} → RunHistory K F n xs running k sq P → RunHistory K F n xs ended k sq P
  asked : {k : ℕ} {sq : Square E} {P : Graph} → RunHistory K F n xs ended k sq P → (a b : ℕ) → a < n → b < n
      → RunHistory K F n xs ended k sq P
  asked_first_unknown : {k : ℕ} {sq : Square E} {P : Graph} → RunHistory K F n xs ended k sq P → (a : ℕ) → n ≤ a
      → RunHistory K F n xs ended k sq P
  asked_second_unknown : {k : ℕ} {sq : Square E} {P : Graph} → RunHistory K F n xs ended k sq P → (a b : ℕ) → a < n → n ≤ b
      → RunHistory K F n xs ended k sq P
  asked_short : {k : ℕ} {sq : Square E} {P : Graph} → RunHistory K F n xs ended k sq P → (a b entries marks : ℕ) → a < n → b < n → Short (places F n) entries marks
      → RunHistory K F n xs ended k sq P

-- the tables hold what the square holds: at each place the mark is 0 exactly if the square is empty there,
-- and else the entry in the table is the entry in the square
pub record Agrees {E : Type 0} (F : Graph) (n : ℕ) (es : List E) (ms : List ℕ) (sq : Square E) : Type 0 where
  pub unmarked : (i j p : ℕ) → cell F n i j ≡ Some p → slice_index ms p ≡ 0 → sq i j ≡ None
  pub marked : (i j p : ℕ) → cell F n i j ≡ Some p → sq i j ≡ None → slice_index ms p ≡ 0
  pub same : (i j p : ℕ) (e : E) → cell F n i j ≡ Some p → sq i j ≡ Some e → slice_get es p ≡ Some e
