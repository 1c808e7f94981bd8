-- Parts of a pivot, one after another; and what a write at one place does to the square.
use Rattle.std.proofs.Common.{◌≡◌, ℕ, zero, suc, ◌<◌, ◌≤◌, Bool, true, false, cond, ◌&&◌, ◌||◌, eqb, ◌≢◌, List, [], ◌∷◌, length, get_or, set, Some, None, Option, sym, refl, ap, ◌∙◌, inl, inr, arith, length-set, get_or-set_other, get_or-set_same}
use Rattle.std.specs.List.{slice_get}
use Rattle.std.proofs.lemmas.Bool.{cases_Bool, cases_eq, and_parts, eq-eqb, ne_eqb, eqb-true}
use Rattle.std.proofs.lemmas.Option.{slice_get-get_or}
use Rattle.std.proofs.lemmas.Bool.Decides.{nat_tests}
use Rattle.elimination.specs.Graphs.{Graph}
use Rattle.plan_parts.specs.Layout.{in_column, cell, Closed}
use Rattle.run_parts.specs.Kinds.{Kind}
use Rattle.run_parts.specs.Square.{Square, met, part}
use Rattle.run_parts.specs.Tables.{held_entry, entry_of, square_of, Room, Within}
use Rattle.run_parts.specs.Parts.{Kept}
use Rattle.plan_parts.proofs.Numbering.{Spot, cell-some, cell-once, cell_below, some-cell}

-- a chosen place, and one that is not
pub part-on : {E : Type 0} (K : Kind E) (k : ℕ) (D : ℕ → ℕ → Bool) (S : Square E) (a b : ℕ) → D a b ≡ true → part K k D S a b ≡ met K (S a b) (S a k) (S k k) (S b k)
unfolding part
part-on K k D S a b h = simp h

pub part_off : {E : Type 0} (K : Kind E) (k : ℕ) (D : ℕ → ℕ → Bool) (S : Square E) (a b : ℕ) → D a b ≡ false → part K k D S a b ≡ S a b
unfolding part
part_off K k D S a b h = simp h

-- a part is the pivot at other squares with the same places
pub part-like : {E : Type 0} (K : Kind E) (k : ℕ) (D C : ℕ → ℕ → Bool) (S T : Square E) → ((a b : ℕ) → S a b ≡ T a b) → (a b : ℕ) → D a b ≡ C a b → part K k D S a b ≡ part K k C T a b
unfolding part
part-like K k D C S T same a b h = rw (h, same a b, same a k, same k k, same b k)

-- two parts, the first of which leaves the column k alone, and no place of the second changed by it
pub part-more : {E : Type 0} (K : Kind E) (k : ℕ) (D₁ D₂ D₃ : ℕ → ℕ → Bool) (S₀ S₁ S₂ : Square E)
    → ((a : ℕ) → D₁ a k ≡ false) → ((a b : ℕ) → D₂ a b ≡ true → D₁ a b ≡ false) → ((a b : ℕ) → D₃ a b ≡ (D₁ a b || D₂ a b))
    → ((a b : ℕ) → S₁ a b ≡ part K k D₁ S₀ a b) → ((a b : ℕ) → S₂ a b ≡ part K k D₂ S₁ a b)
    → (a b : ℕ) → S₂ a b ≡ part K k D₃ S₀ a b
part-more K k D₁ D₂ D₃ S₀ S₁ S₂ away apart both one two a b = elim (cases_Bool (D₂ a b)) [
  | inl t ↦
      (let off = apart a b t in
      let on : D₃ a b ≡ true = both a b ∙ simp (off, t) in
      let e : S₁ a b ≡ S₀ a b = one a b ∙ part_off K k D₁ S₀ a b off in
      two a b ∙ part-on K k D₂ S₁ a b t ∙ rw (e, column a, column k, column b) (sym (part-on K k D₃ S₀ a b on)))
  | inr f ↦ two a b ∙ part_off K k D₂ S₁ a b f ∙ one a b ∙ part-like K k D₁ D₃ S₀ S₀ (λ x y. refl) a b (same f)
]
  where
    column : (x : ℕ) → S₁ x k ≡ S₀ x k
    column x = one x k ∙ part_off K k D₁ S₀ x k (away x)

    same : D₂ a b ≡ false → D₁ a b ≡ D₃ a b
    same f = sym (both a b ∙ simp f (or-none (D₁ a b)))
      where
        or-none : (x : Bool) → (x || false) ≡ x
        or-none true = refl
        or-none false = refl

-- nothing meets where left or right is empty
pub met-no-left : {E : Type 0} (K : Kind E) (o l p r : Option E) → l ≡ None → met K o l p r ≡ o
met-no-left K o None p r e = refl
met-no-left K o (Some l) p r e = cc

pub met-no-right : {E : Type 0} (K : Kind E) (o l p r : Option E) → r ≡ None → met K o l p r ≡ o
met-no-right K o None p r e = refl
met-no-right K o (Some l) None r e = refl
met-no-right K o (Some l) (Some p) None e = refl
met-no-right K o (Some l) (Some p) (Some r) e = cc

-- a write
pub nth-set-same : {E : Type 0} (xs : List E) (i : ℕ) (v : E) → i < length xs → slice_get (set xs i v) i ≡ Some v
nth-set-same xs i v h = slice_get-get_or (set xs i v) i v (rw length-set h) ∙ ap (λ x. Some x) (get_or-set_same xs i v v h)

pub nth-set-other : {E : Type 0} (xs : List E) (i j : ℕ) (v : E) → j ≢ i → slice_get (set xs i v) j ≡ slice_get xs j
nth-set-other [] i j v d = refl
nth-set-other (x ∷ xs) zero zero v d = absurd (d refl)
nth-set-other (x ∷ xs) zero (suc j) v d = refl
nth-set-other (x ∷ xs) (suc i) zero v d = refl
nth-set-other (x ∷ xs) (suc i) (suc j) v d = nth-set-other xs i j v (λ e. d (ap suc e))

at_same : {E : Type 0} (es : List E) (ms : List ℕ) (p m : ℕ) (v : E) → p < length es → p < length ms → m ≢ 0 → held_entry (set es p v) (set ms p m) p ≡ Some v
at_same es ms p m v h g d =
    let e : eqb (get_or (set ms p m) p 0) 0 ≡ false = ne_eqb _ _ (λ z. d (sym (get_or-set_same ms p m 0 g) ∙ z)) in
    rw e (nth-set-same es p v h)

at_other : {E : Type 0} (es : List E) (ms : List ℕ) (p q m : ℕ) (v : E) → q ≢ p → held_entry (set es p v) (set ms p m) q ≡ held_entry es ms q
at_other es ms p q m v d = rw (get_or-set_other ms p q m 0 d, nth-set-other es p q v d)

pub set-square : {E : Type 0} (F : Graph) (n i j p m : ℕ) (es : List E) (ms : List ℕ) (v : E) → cell F n i j ≡ Some p → p < length es → p < length ms → m ≢ 0
    → (a b : ℕ) → square_of F n (set es p v) (set ms p m) a b ≡ cond (eqb a i && eqb b j) (Some v) (square_of F n es ms a b)
unfolding square_of
set-square {E} F n i j p m es ms v here h g d a b = go (cell F n a b) refl
  where
    at-cell : (eqb a i && eqb b j) ≡ true → cell F n a b ≡ Some p
    at-cell t = let q = and_parts (eqb a i) (eqb b j) t in rw (eqb-true a i q.0, eqb-true b j q.1) here

    go : (o : Option ℕ) → cell F n a b ≡ o → entry_of (set es p v) (set ms p m) o ≡ cond (eqb a i && eqb b j) (Some v) (entry_of es ms o)
    go None e = elim (cases_Bool (eqb a i && eqb b j)) [
      | inl t ↦ (let s = at-cell t in cc)
      | inr f ↦ simp f
    ]
    go (Some q) e = elim (cases_eq q p) [
      | inl w ↦
          (let e' : cell F n a b ≡ Some p = e ∙ ap (λ (x : ℕ). Some x) w in
          let u = cell-once F n a b i j p e' here in
          rw (w, eq-eqb a i u.0, eq-eqb b j u.1) (at_same es ms p m v h g d))
      | inr w ↦ elim (cases_Bool (eqb a i && eqb b j)) [
        | inl t ↦ (let s = at-cell t in absurd (w (cc)))
        | inr f ↦ rw f (at_other es ms p q m v w)
      ]
    ]

-- what stays
pub kept_same : {E : Type 0} (len : ℕ) (es : List E) (ms : List ℕ) → Kept len es ms es ms
kept_same len es ms = record { entries = refl; table = refl; marks = λ p d. refl; ones = λ p e. omega arith; empties = λ p e. refl; tails = λ p h. (refl, refl) }

pub kept_more : {E : Type 0} (len : ℕ) (es : List E) (ms : List ℕ) (es' : List E) (ms' : List ℕ) (es'' : List E) (ms'' : List ℕ) → Kept len es ms es' ms' → Kept len es' ms' es'' ms'' → Kept len es ms es'' ms''
kept_more len es ms es' ms' es'' ms'' a b = record {
  entries = b.entries ∙ a.entries;
  table = b.table ∙ a.table;
  marks = λ p d. b.marks p (λ z. d (sym (a.marks p d) ∙ z)) ∙ a.marks p d;
  ones = λ p e. elim (cases_eq (get_or ms' p 0) 0) [ inl z ↦ b.ones p z | inr d ↦ omega (arith, a.ones p e, b.marks p d) ];
  empties = λ p e. elim (cases_eq (get_or ms' p 0) 0) [ inl z ↦ b.empties p e ∙ a.empties p z | inr d ↦ absurd (d (sym (b.marks p d) ∙ e)) ];
  tails = λ p h. ((b.tails p h).0 ∙ (a.tails p h).0, (b.tails p h).1 ∙ (a.tails p h).1);
}

-- a write at a place, which marks it with 1 where it was empty
pub kept_set : {E : Type 0} (len p m : ℕ) (es : List E) (ms : List ℕ) (v : E) → p < len → p < length ms → m ≢ 0 → ((get_or ms p 0 ≡ 0 → ⊥) → m ≡ get_or ms p 0) → (get_or ms p 0 ≡ 0 → m ≤ 1) → Kept len es ms (set es p v) (set ms p m)
kept_set len p m es ms v lt g d keep one = record {
  entries = length-set es p v;
  table = length-set ms p m;
  marks = λ q e. elim (cases_eq q p) [ inl w ↦ rw w (get_or-set_same ms p m 0 g ∙ keep (λ z. e (rw w z))) | inr w ↦ get_or-set_other ms p q m 0 w ];
  ones = λ q e. elim (cases_eq q p) [ inl w ↦ rw w (omega (arith, get_or-set_same ms p m 0 g, one (rw w at e))) | inr w ↦ omega (arith, get_or-set_other ms p q m 0 w) ];
  empties = λ q e. elim (cases_eq q p) [ inl w ↦ absurd (d (sym (get_or-set_same ms p m 0 g) ∙ rw w at e)) | inr w ↦ nth-set-other es p q v w ];
  tails = λ q h. (let w : q ≢ p = omega arith in (get_or-set_other ms p q m 0 w, nth-set-other es p q v w));
}

-- a closed reserve has a place for the pair of two held in one column
pub closed-cell : (F : Graph) (n i j k p q : ℕ) → Closed F n → k < j → j ≤ i → cell F n i k ≡ Some p → cell F n j k ≡ Some q → (r : ℕ) × (cell F n i j ≡ Some r)
unfolding in_column
closed-cell F n i j k p q closed kj ji h g = (_, some-cell F n i j s.within here)
  where
    s : Spot F n i k p
    s = cell-some F n i k p h

    t : Spot F n j k q
    t = cell-some F n j k q g

    pair : (x : ℕ) → k < x → in_column F k x ≡ true → F x k ≡ true
    pair x lt e = grind (arith, nat_tests)

    here : in_column F j i ≡ true
    here = elim (cases_eq i j) [
      | inl e ↦ simp (eq-eqb i j e)
      | inr d ↦
          (let lt : j < i = omega (arith, d) in
          let f : F i j ≡ true = closed (record { i = i; j = j; k = k; row = s.within; column = t.within; apart = d; after_row = omega arith; after_column = kj; left = pair i (omega arith) s.here; right = pair j kj t.here }) in
          grind (arith, nat_tests))
    ]

-- what is held has a place
pub held-cell : {E : Type 0} (F : Graph) (n i j : ℕ) (es : List E) (ms : List ℕ) (x : E) → square_of F n es ms i j ≡ Some x → (p : ℕ) × (cell F n i j ≡ Some p)
unfolding square_of
held-cell {E} F n i j es ms x h = go (cell F n i j) refl
  where
    go : (o : Option ℕ) → cell F n i j ≡ o → (p : ℕ) × (cell F n i j ≡ Some p)
    go None e = let z : None ≡ Some x = sym (ap (entry_of es ms) e) ∙ h in cc
    go (Some p) e = (p, e)

pub square-some : {E : Type 0} (F : Graph) (n i j : ℕ) (es : List E) (ms : List ℕ) (p : ℕ) → cell F n i j ≡ Some p → square_of F n es ms i j ≡ held_entry es ms p
unfolding square_of
square-some F n i j es ms p h = ap (entry_of es ms) h

pub square-none : {E : Type 0} (F : Graph) (n i j : ℕ) (es : List E) (ms : List ℕ) → cell F n i j ≡ None → square_of F n es ms i j ≡ None
unfolding square_of
square-none F n i j es ms h = ap (entry_of es ms) h

pub nth-some : {E : Type 0} (xs : List E) (i : ℕ) → i < length xs → (x : E) × (slice_get xs i ≡ Some x)
nth-some [] i h = absurd (omega arith)
nth-some (x ∷ xs) zero h = (x, refl)
nth-some (x ∷ xs) (suc i) h = nth-some xs i (omega arith)

-- with room, every place lies within the tables
pub cell_within : {E : Type 0} (F : Graph) (n i j : ℕ) (es : List E) (ms : List ℕ) (o : Option ℕ) → o ≡ cell F n i j → Room F n es ms → Within (length es) (length ms) o
cell_within F n i j es ms None h room = tt
cell_within F n i j es ms (Some p) h room = let lt = cell_below F n i j p (sym h) in (omega (arith, lt, room.0), omega (arith, lt, room.1))
