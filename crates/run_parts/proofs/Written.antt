-- The tables that a pivot leaves are the tables before, with all that the square holds written at its places.
use Rattle.std.proofs.Common.{◌≡◌, ℕ, zero, suc, ◌<◌, ◌≤◌, cond, eqb, ◌≢◌, ◌⊎◌, List, [], ◌∷◌, length, get_or, Some, None, Option, sym, refl, ◌∙◌, subst, inl, inr, ⊎_elim, arith, length-set, get_or-set_other, get_or-set_same}
use Rattle.std.specs.List.{slice_get}
use Rattle.std.proofs.lemmas.Bool.{cases_lt, cases_eq, eq-eqb, ne_eqb}
use Rattle.std.proofs.lemmas.List.{ext_get_or}
use Rattle.elimination.specs.Graphs.{Graph}
use Rattle.plan_parts.specs.Layout.{places, cell}
use Rattle.plan_parts.proofs.Numbering.{cell_below, cell-all, cell-some, column-le}
use Rattle.run_parts.specs.Square.{Square}
use Rattle.run_parts.specs.Tables.{held_entry, square_of, Room, entry_over, mark_over, over_rows, over_columns, entries_over, marks_over}
use Rattle.run_parts.specs.Parts.{Kept}
use Rattle.run_parts.proofs.Parts.{square-some, nth-some, nth-set-same, nth-set-other}

-- what every write keeps, all writes keep
module _ {A : Type 0} (write : ℕ → ℕ → A → A) (P : A → Type 0) (keep : (i j : ℕ) (x : A) → P x → P (write i j x)) where
  rows-keep : (j i : ℕ) (x : A) → P x → P (over_rows write j i x)
  unfolding over_rows
  rows-keep j zero x h = h
  rows-keep j (suc i) x h = keep i j _ (rows-keep j i x h)

  columns-keep : (n j : ℕ) (x : A) → P x → P (over_columns write n j x)
  unfolding over_columns
  columns-keep n zero x h = h
  columns-keep n (suc j) x h = rows-keep j n _ (columns-keep n j x h)

-- what one write brings about, and every write keeps, holds in the end
module _ {A : Type 0} (write : ℕ → ℕ → A → A) (P Q : A → Type 0) (keep : (i j : ℕ) (x : A) → P x → P (write i j x)) (stay : (i j : ℕ) (x : A) → P x → Q x → Q (write i j x)) (a b : ℕ) (here : (x : A) → P x → Q (write a b x)) where
  rows-reach : (i : ℕ) (x : A) → a < i → P x → Q (over_rows write b i x)
  unfolding over_rows
  rows-reach zero x lt h = absurd (omega arith)
  rows-reach (suc i) x lt h = elim (cases_eq a i) [
    | inl e ↦ (let y = over_rows write b i x in subst (λ (r : ℕ). Q (write r b y)) e (here y (rows-keep write P keep b i x h)))
    | inr d ↦ stay i b _ (rows-keep write P keep b i x h) (rows-reach i x (omega (arith, d)) h)
  ]

  columns-reach : (n j : ℕ) (x : A) → a < n → b < j → P x → Q (over_columns write n j x)
  unfolding over_columns
  columns-reach n zero x la lb h = absurd (omega arith)
  columns-reach n (suc j) x la lb h = elim (cases_eq b j) [
    | inl e ↦ (let y = over_columns write n j x in subst (λ (r : ℕ). Q (over_rows write r n y)) e (rows-reach n y la (columns-keep write P keep n j x h)))
    | inr d ↦ (rows-keep write (λ y. P y × Q y) (λ i c y both. (keep i c y both.0, stay i c y both.0 both.1)) j n _ (columns-keep write P keep n j x h, columns-reach n j x la (omega (arith, d)) h)).1
  ]

-- a table of the right length, in which a place reads as it was or as it is after
abbrev Mixed : {A V : Type 0} → (A → ℕ) → ℕ → (A → V) → V → V → A → Type 0
Mixed long len read old new x = (long x ≡ len) × ((read x ≡ old) ⊎ (read x ≡ new))

-- if every write leaves what is read, or makes it what it is after, it is that in the end: unless it was that before,
-- some write has to make it so
module _ {A V : Type 0} (write : ℕ → ℕ → A → A) (long : A → ℕ) (len : ℕ) (read : A → V) (old new : V)
    (each : (i j : ℕ) (x : A) → Mixed long len read old new x → (long (write i j x) ≡ len) × ((read (write i j x) ≡ read x) ⊎ (read (write i j x) ≡ new))) where
  mixed-keep : (i j : ℕ) (x : A) → Mixed long len read old new x → Mixed long len read old new (write i j x)
  mixed-keep i j x m =
      let w = each i j x m in (
        w.0,
        ⊎_elim (λ (e : read (write i j x) ≡ read x). ⊎_elim (λ (a : read x ≡ old). inl (e ∙ a)) (λ (a : read x ≡ new). inr (e ∙ a)) m.1) (λ (e : read (write i j x) ≡ new). inr e) w.1,
      )

  mixed-stay : (i j : ℕ) (x : A) → Mixed long len read old new x → read x ≡ new → read (write i j x) ≡ new
  mixed-stay i j x m h = ⊎_elim (λ (e : read (write i j x) ≡ read x). e ∙ h) (λ (e : read (write i j x) ≡ new). e) (each i j x m).1

  mixed-end : (n : ℕ) (x : A) → Mixed long len read old new x → Mixed long len read old new (over_columns write n n x)
  mixed-end n x m = columns-keep write (Mixed long len read old new) mixed-keep n n x m

  same_end : (n : ℕ) (x : A) → Mixed long len read old new x → new ≡ old → read (over_columns write n n x) ≡ new
  same_end n x m e =
      let y = over_columns write n n x in
      ⊎_elim (λ (a : read y ≡ old). a ∙ sym e) (λ (a : read y ≡ new). a) (mixed-end n x m).1

  made-end : (n a b : ℕ) (x : A) → Mixed long len read old new x → a < n → b < n → ((y : A) → Mixed long len read old new y → read (write a b y) ≡ new) → read (over_columns write n n x) ≡ new
  made-end n a b x m la lb here = columns-reach write (Mixed long len read old new) (λ y. read y ≡ new) mixed-keep mixed-stay a b here n n x la lb m

same-nths : {E : Type 0} (xs ys : List E) → ((p : ℕ) → slice_get xs p ≡ slice_get ys p) → xs ≡ ys
same-nths [] [] h = refl
same-nths [] (y ∷ ys) h = let e = h 0 in cc
same-nths (x ∷ xs) [] h = let e = h 0 in cc
same-nths (x ∷ xs) (y ∷ ys) h =
    let e : Some x ≡ Some y = h 0 in
    let rest = same-nths xs ys (λ p. h (suc p)) in
    cc

-- a mark that is written is the mark after
mark-value : (x m m' : ℕ) → (x ≡ m) ⊎ (x ≡ m') → m' ≢ 0 → ((m ≡ 0 → ⊥) → m' ≡ m) → (m ≡ 0 → m' ≤ 1) → cond (eqb x 0) 1 x ≡ m'
mark-value x m m' either some keep one = elim (cases_eq x 0) [
  | inl z ↦ simp (eq-eqb x 0 z) (⊎_elim (λ (e : x ≡ m). omega (arith, some, one (sym e ∙ z))) (λ (e : x ≡ m'). absurd (some (sym e ∙ z))) either)
  | inr d ↦ simp (ne_eqb x 0 d) (⊎_elim (λ (e : x ≡ m). e ∙ sym (keep (λ z. d (e ∙ z)))) (λ (e : x ≡ m'). e) either)
]

-- tables before and after, of which the square S is what is held after
module _ {E : Type 0} (F : Graph) (n : ℕ) (S : Square E) (es : List E) (ms : List ℕ) (es' : List E) (ms' : List ℕ) (room : Room F n es ms) (kept : Kept (places F n) es ms es' ms') (square : (i j : ℕ) → square_of F n es' ms' i j ≡ S i j) where
  at_place : (i j p : ℕ) → cell F n i j ≡ Some p → held_entry es' ms' p ≡ S i j
  at_place i j p here = sym (square-some F n i j es' ms' p here) ∙ square i j

  -- a place that is held after, by its row, its column and its entry
  record Held (p : ℕ) : Type 0 where
    pub i : ℕ
    pub j : ℕ
    pub e : E
    pub here : cell F n i j ≡ Some p
    pub holds : S i j ≡ Some e

  held_both : (i j p : ℕ) (e : E) → cell F n i j ≡ Some p → S i j ≡ Some e → (p < places F n) × (get_or ms' p 0 ≢ 0) × (slice_get es' p ≡ Some e)
  held_both i j p e here h = elim (cases_eq (get_or ms' p 0) 0) [
    | inl z ↦
        (let w : held_entry es' ms' p ≡ None = simp (eq-eqb _ _ z) in
        let x : None ≡ Some e = sym w ∙ at_place i j p here ∙ h in
        cc)
    | inr d ↦
        (let w : held_entry es' ms' p ≡ slice_get es' p = simp (ne_eqb _ _ d) in
        (cell_below F n i j p here, d, sym w ∙ at_place i j p here ∙ h))
  ]

  -- each place is held after, or entry and mark are as before
  held-or-same : (p : ℕ) → Held p ⊎ ((slice_get es' p ≡ slice_get es p) × (get_or ms' p 0 ≡ get_or ms p 0))
  held-or-same p = elim (cases_lt p (places F n)) [
    | inl lt ↦ (let q = cell-all F n p lt in by q.0 q.1 q.2 (S q.0 q.1) refl)
    | inr ge ↦ inr ((kept.tails p ge).1, (kept.tails p ge).0)
  ]
    where
      unmarked : get_or ms' p 0 ≡ 0 → get_or ms' p 0 ≡ get_or ms p 0
      unmarked z = elim (cases_eq (get_or ms p 0) 0) [ inl y ↦ z ∙ sym y | inr d ↦ kept.marks p d ]

      by : (i j : ℕ) → cell F n i j ≡ Some p → (s : Option E) → S i j ≡ s → Held p ⊎ ((slice_get es' p ≡ slice_get es p) × (get_or ms' p 0 ≡ get_or ms p 0))
      by i j here (Some e) h = inl (record { i = i; j = j; e = e; here = here; holds = h })
      by i j here None h = elim (cases_eq (get_or ms' p 0) 0) [
        | inl z ↦ inr (kept.empties p z, unmarked z)
        | inr d ↦
            (let x = nth-some es' p (omega (arith, cell_below F n i j p here, room.0, kept.entries)) in
            let v : held_entry es' ms' p ≡ slice_get es' p = simp (ne_eqb _ _ d) in
            let w : Some x.0 ≡ None = sym x.1 ∙ sym v ∙ at_place i j p here ∙ h in
            cc)
      ]

  -- one write of an entry, and of a mark
  entry-write : (p : ℕ) (o : Option ℕ) (s : Option E) (x : List E) → length x ≡ length es → ((q : ℕ) (e : E) → o ≡ Some q → s ≡ Some e → (q < places F n) × (slice_get es' q ≡ Some e))
      → (length (entry_over o s x) ≡ length es) × ((slice_get (entry_over o s x) p ≡ slice_get x p) ⊎ (slice_get (entry_over o s x) p ≡ slice_get es' p))
  entry-write p None s x l h = (l, inl refl)
  entry-write p (Some q) None x l h = (l, inl refl)
  entry-write p (Some q) (Some e) x l h = (
    length-set x q e ∙ l,
    elim (cases_eq p q) [
      | inl w ↦ inr (rw w (nth-set-same x q e (omega (arith, l, room.0, (h q e refl refl).0)) ∙ sym (h q e refl refl).1))
      | inr d ↦ inl (nth-set-other x q p e d)
    ],
  )

  mark-write : (p : ℕ) (o : Option ℕ) (s : Option E) (x : List ℕ) → Mixed length (length ms) (λ y. get_or y p 0) (get_or ms p 0) (get_or ms' p 0) x → ((q : ℕ) (e : E) → o ≡ Some q → s ≡ Some e → (q < places F n) × (get_or ms' q 0 ≢ 0))
      → (length (mark_over o s x) ≡ length ms) × ((get_or (mark_over o s x) p 0 ≡ get_or x p 0) ⊎ (get_or (mark_over o s x) p 0 ≡ get_or ms' p 0))
  mark-write p None s x m h = (m.0, inl refl)
  mark-write p (Some q) None x m h = (m.0, inl refl)
  mark-write p (Some q) (Some e) x m h = (
    length-set x q _ ∙ m.0,
    elim (cases_eq p q) [
      | inl w ↦
          (let k = h q e refl refl in
          let mix : (get_or x q 0 ≡ get_or ms q 0) ⊎ (get_or x q 0 ≡ get_or ms' q 0) = subst (λ (r : ℕ). (get_or x r 0 ≡ get_or ms r 0) ⊎ (get_or x r 0 ≡ get_or ms' r 0)) w m.1 in
          inr (rw w (get_or-set_same x q _ 0 (omega (arith, m.0, room.1, k.0)) ∙ mark-value (get_or x q 0) (get_or ms q 0) (get_or ms' q 0) mix k.1 (kept.marks q) (kept.ones q))))
      | inr d ↦ inl (get_or-set_other x q p _ 0 d)
    ],
  )

  column-low : (p : ℕ) (h : Held p) → (h.i < n) × (h.j < n)
  column-low p h = let t = cell-some F n h.i h.j p h.here in (t.within, omega (arith, column-le F h.j h.i t.here, t.within))

  entry-after : (p : ℕ) → slice_get (entries_over F n S es) p ≡ slice_get es' p
  unfolding entries_over
  entry-after p = ⊎_elim
      (λ (h : Held p). made-end write length (length es) (λ x. slice_get x p) (slice_get es p) (slice_get es' p) each n h.i h.j es (refl, inl refl) (column-low p h).0 (column-low p h).1 (here h))
      (λ (e : (slice_get es' p ≡ slice_get es p) × (get_or ms' p 0 ≡ get_or ms p 0)). same_end write length (length es) (λ x. slice_get x p) (slice_get es p) (slice_get es' p) each n es (refl, inl refl) e.0)
      (held-or-same p)
    where
      write : ℕ → ℕ → List E → List E
      write = λ i j. entry_over (cell F n i j) (S i j)

      each : (i j : ℕ) (x : List E) → Mixed length (length es) (λ x. slice_get x p) (slice_get es p) (slice_get es' p) x → (length (entry_over (cell F n i j) (S i j) x) ≡ length es) × ((slice_get (entry_over (cell F n i j) (S i j) x) p ≡ slice_get x p) ⊎ (slice_get (entry_over (cell F n i j) (S i j) x) p ≡ slice_get es' p))
      each i j x m = entry-write p (cell F n i j) (S i j) x m.0 (λ q e h g. let b = held_both i j q e h g in (b.0, b.2))

      here : (h : Held p) (x : List E) → Mixed length (length es) (λ x. slice_get x p) (slice_get es p) (slice_get es' p) x → slice_get (entry_over (cell F n h.i h.j) (S h.i h.j) x) p ≡ slice_get es' p
      here h x m =
          let b = held_both h.i h.j p h.e h.here h.holds in
          rw (h.here, h.holds) (nth-set-same x p h.e (omega (arith, b.0, room.0, m.0)) ∙ sym b.2)

  mark-after : (p : ℕ) → (length (marks_over F n S ms) ≡ length ms) × (get_or (marks_over F n S ms) p 0 ≡ get_or ms' p 0)
  unfolding marks_over
  mark-after p = (
    (mixed-end write length (length ms) (λ x. get_or x p 0) (get_or ms p 0) (get_or ms' p 0) each n ms (refl, inl refl)).0,
    ⊎_elim
        (λ (h : Held p). made-end write length (length ms) (λ x. get_or x p 0) (get_or ms p 0) (get_or ms' p 0) each n h.i h.j ms (refl, inl refl) (column-low p h).0 (column-low p h).1 (here h))
        (λ (e : (slice_get es' p ≡ slice_get es p) × (get_or ms' p 0 ≡ get_or ms p 0)). same_end write length (length ms) (λ x. get_or x p 0) (get_or ms p 0) (get_or ms' p 0) each n ms (refl, inl refl) e.1)
        (held-or-same p),
  )
    where
      write : ℕ → ℕ → List ℕ → List ℕ
      write = λ i j. mark_over (cell F n i j) (S i j)

      each : (i j : ℕ) (x : List ℕ) → Mixed length (length ms) (λ x. get_or x p 0) (get_or ms p 0) (get_or ms' p 0) x → (length (mark_over (cell F n i j) (S i j) x) ≡ length ms) × ((get_or (mark_over (cell F n i j) (S i j) x) p 0 ≡ get_or x p 0) ⊎ (get_or (mark_over (cell F n i j) (S i j) x) p 0 ≡ get_or ms' p 0))
      each i j x m = mark-write p (cell F n i j) (S i j) x m (λ q e h g. let b = held_both i j q e h g in (b.0, b.1))

      here : (h : Held p) (x : List ℕ) → Mixed length (length ms) (λ x. get_or x p 0) (get_or ms p 0) (get_or ms' p 0) x → get_or (mark_over (cell F n h.i h.j) (S h.i h.j) x) p 0 ≡ get_or ms' p 0
      here h x m =
          let b = held_both h.i h.j p h.e h.here h.holds in
          rw (h.here, h.holds) (get_or-set_same x p _ 0 (omega (arith, b.0, room.1, m.0)) ∙ mark-value (get_or x p 0) (get_or ms p 0) (get_or ms' p 0) m.1 b.1 (kept.marks p) (kept.ones p))

  pub entries-written : es' ≡ entries_over F n S es
  entries-written = same-nths es' (entries_over F n S es) (λ p. sym (entry-after p))

  pub marks-written : ms' ≡ marks_over F n S ms
  marks-written = ext_get_or 0 ms' (marks_over F n S ms) (kept.table ∙ sym (mark-after 0).0) (λ p lt. sym (mark-after p).1)
