-- Parts of a pivot in lent tables, one after another.
use Rattle.std.proofs.Common.{◌≡◌, ℕ, ◌+◌, ◌<◌, ◌≤◌, Bool, false, None, Some, refl, ap, ◌∙◌, subst, arith}
use Rattle.plan_parts.specs.declared.reserve.Reserve.{Reserve}
use Rattle.plan_parts.specs.declared.reserve.column.Column.{Column}
use Rattle.plan_parts.specs.ColumnWalk.{Walks}
use Rattle.plan_parts.specs.ReserveView.{filled_in, size_in}
use Rattle.plan_parts.specs.Reserves.{has_place}
use Rattle.run_parts.specs.declared.pivots.Tables.{Tables}
use Rattle.run_parts.specs.Kinds.{Kind}
use Rattle.run_parts.specs.Lent.{Makes, SameLent, square_in}
use Rattle.run_parts.specs.Parts.{Pivoted, in_one, in_up_to}
use Rattle.run_parts.specs.Square.{single, beyond}
use Rattle.run_parts.specs.Tables.{square_of}
use Rattle.run_parts.proofs.Steps.{row-none, row_more, row-skip, row-all, row-away, column-none, column-more, column-skip, column-all, column-away, no-left, no-right}

same-lent : {E : Type 0} (t : Tables E) → SameLent t t
same-lent t = record { reserve = refl; entries = refl; marks = refl }

lent-on : {E : Type 0} (t u v : Tables E) → SameLent t u → SameLent u v → SameLent t v
lent-on t u v s s' = record { reserve = s'.reserve ∙ s.reserve; entries = s'.entries ∙ s.entries; marks = s'.marks ∙ s.marks }

module _ {E : Type 0} (K : Kind E) (k : ℕ) where
  -- a second part, over the reserve of the first
  over-first : (D : ℕ → ℕ → Bool) (t u v : Tables E) → SameLent t u → Makes K k D u v
      → Pivoted K (filled_in t.reserve.now) (size_in t.reserve.now) k D u.entries.now u.marks.now v.entries.now v.marks.now
  over-first D t u v s m =
      subst (λ (R : Reserve). Pivoted K (filled_in R) (size_in R) k D u.entries.now u.marks.now v.entries.now v.marks.now) s.reserve m.pivoted

  same-square : (t u : Tables E) → SameLent t u → (i j : ℕ) → square_in u i j ≡ square_of (filled_in t.reserve.now) (size_in t.reserve.now) u.entries.now u.marks.now i j
  same-square t u s i j = ap (λ (R : Reserve). square_of (filled_in R) (size_in R) u.entries.now u.marks.now i j) s.reserve

  -- what the walk passed over has no place
  passed : (t : Tables E) (s : Column) (i : ℕ) → s.column ≡ k → s.reserve.now ≡ t.reserve.now
      → ((a : ℕ) → s.from ≤ a → a < i → has_place (filled_in s.reserve.now) (size_in s.reserve.now) s.column a ≡ false)
      → (a : ℕ) → s.from ≤ a → a < i → has_place (filled_in t.reserve.now) (size_in t.reserve.now) k a ≡ false
  passed t s i column here none a low high = rw (← column, ← here) (none a low high)

  -- no left, no right
  pub made_no_left : (i j : ℕ) (t : Tables E) → square_in t i k ≡ None → Makes K k (single i j) t t
  made_no_left i j t none = record { lent = same-lent t; pivoted = no-left K _ _ k i j _ _ none }

  pub made_no_right : (i j : ℕ) (t : Tables E) → square_in t j k ≡ None → Makes K k (in_one j i) t t
  made_no_right i j t none = record { lent = same-lent t; pivoted = no-right K _ _ k i j _ _ none }

  -- the rows of column j are done that a walk along column k has passed, from j on
  pub record RowsDone (j : ℕ) (t u : Tables E) (s : Column) : Type 0 where
    pub made : Makes K k (in_one j s.from) t u
    pub low : j ≤ s.from
    pub column : s.column ≡ k
    pub reserve : s.reserve.now ≡ t.reserve.now

  pub rows_begun : (j : ℕ) (t : Tables E) (s : Column) → s.reserve.now ≡ t.reserve.now → s.column ≡ k → s.from ≡ j → RowsDone j t t s
  rows_begun j t s here column from = record {
    made = rw from (record { lent = same-lent t; pivoted = row-none K _ _ k j _ _ });
    low = omega (arith, from);
    column = column;
    reserve = here;
  }

  pub rows_kept : (j : ℕ) (t u : Tables E) (s : Column) → k < j → RowsDone j t u s → (a : ℕ) → square_in u a k ≡ square_in t a k
  rows_kept j t u s kj d a = same-square t u d.made.lent a k ∙ row-away K _ _ k j s.from _ _ _ _ kj d.made.pivoted a

  pub row_done : (j i : ℕ) (t u v : Tables E) (s s' : Column) → k < j → RowsDone j t u s → Walks s (Some i) s' → Makes K k (single i j) u v → RowsDone j t v s'
  row_done j i t u v s s' kj d w m = record {
    made = rw w.4 (record {
      lent = lent-on t u v d.made.lent m.lent;
      pivoted = row_more K _ _ k j i _ _ _ _ _ _ kj (omega (arith, d.low, w.1.0)) (row-skip K _ _ k j s.from i _ _ _ _ (passed t s i d.column d.reserve w.1.3) w.1.0 d.made.pivoted) (over-first (single i j) t u v d.made.lent m);
    });
    low = omega (arith, d.low, w.1.0, w.4);
    column = w.3 ∙ d.column;
    reserve = ap (λ r. r.now) w.2 ∙ d.reserve;
  }

  pub rows_ended : (j : ℕ) (t u : Tables E) (s s' : Column) → RowsDone j t u s → Walks s None s' → Makes K k (in_one j (size_in t.reserve.now)) t u
  rows_ended j t u s s' d w = record {
    lent = d.made.lent;
    pivoted = row-all K _ _ k j s.from _ _ _ _ (λ a low high. passed t s 512 d.column d.reserve w.1 a low (omega (arith, high, t.reserve.now.order.few))) d.made.pivoted;
  }

  -- the columns are done that a walk along column k has passed, from the one after k on
  pub record ColumnsDone (t u : Tables E) (s : Column) : Type 0 where
    pub made : Makes K k (in_up_to k (size_in t.reserve.now) s.from) t u
    pub low : k < s.from
    pub column : s.column ≡ k
    pub reserve : s.reserve.now ≡ t.reserve.now

  pub columns_begun : (t : Tables E) (s : Column) → s.reserve.now ≡ t.reserve.now → s.column ≡ k → s.from ≡ k + 1 → ColumnsDone t t s
  columns_begun t s here column from = record {
    made = rw from (record { lent = same-lent t; pivoted = column-none K _ _ k _ _ });
    low = omega (arith, from);
    column = column;
    reserve = here;
  }

  pub columns_kept : (t u : Tables E) (s : Column) → ColumnsDone t u s → (a : ℕ) → square_in u a k ≡ square_in t a k
  columns_kept t u s d a = same-square t u d.made.lent a k ∙ column-away K _ _ k s.from _ _ _ _ d.made.pivoted a

  pub column_done : (j : ℕ) (t u v : Tables E) (s s' : Column) → ColumnsDone t u s → Walks s (Some j) s' → Makes K k (in_one j (size_in u.reserve.now)) u v → ColumnsDone t v s'
  column_done j t u v s s' d w m =
      let whole : Makes K k (in_one j (size_in t.reserve.now)) u v = subst (λ (R : Reserve). Makes K k (in_one j (size_in R)) u v) d.made.lent.reserve m in
      record {
        made = rw w.4 (record {
          lent = lent-on t u v d.made.lent m.lent;
          pivoted = column-more K _ _ k j _ _ _ _ _ _ (omega (arith, d.low, w.1.0)) (column-skip K _ _ k s.from j _ _ _ _ (passed t s j d.column d.reserve w.1.3) w.1.0 d.made.pivoted)
              (over-first (in_one j (size_in t.reserve.now)) t u v d.made.lent whole);
        });
        low = omega (arith, d.low, w.1.0, w.4);
        column = w.3 ∙ d.column;
        reserve = ap (λ r. r.now) w.2 ∙ d.reserve;
      }

  pub columns_ended : (t u : Tables E) (s s' : Column) → ColumnsDone t u s → Walks s None s' → Makes K k (beyond k) t u
  columns_ended t u s s' d w = record {
    lent = d.made.lent;
    pivoted = column-all K _ _ k s.from _ _ _ _ (λ b low high. passed t s 512 d.column d.reserve w.1 b low (omega (arith, high, t.reserve.now.order.few))) d.made.pivoted;
  }
