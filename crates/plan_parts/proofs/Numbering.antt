-- The layout numbers its places without gap and without repeat.
use Rattle.std.proofs.Common.{◌≡◌, ℕ, zero, suc, ◌+◌, ◌-◌, ◌<◌, ◌≤◌, true, false, cond, ◌&&◌, ltb, Some, None, refl, ap, ◌∙◌, inl, inr, arith}
use Rattle.std.proofs.lemmas.Bool.{cases_Bool, cases_lt, cases_eq, cases_order, and_parts, and_right, and_left, le-ltb, ltb-true, lt-ltb}
use Rattle.std.proofs.lemmas.Bool.Decides.{nat_tests}
use Rattle.elimination.specs.Graphs.{Graph}
use Rattle.plan_parts.specs.Layout.{in_column, rank, start, places, cell, later, pairs, Numbered}

rank_mono : (F : Graph) (j a b : ℕ) → a ≤ b → rank F j a ≤ rank F j b
unfolding rank
rank_mono F j a zero h = let e : a ≡ 0 = omega arith in rw e (omega arith)
rank_mono F j a (suc b) h = elim (cases_eq a (suc b)) [
  | inl e ↦ rw e (omega arith)
  | inr d ↦ (let h' : a ≤ b = omega (arith, d) in omega (arith, rank_mono F j a b h'))
]

rank-suc : (F : Graph) (j i : ℕ) → in_column F j i ≡ true → rank F j (suc i) ≡ rank F j i + 1
unfolding rank
rank-suc F j i h = simp h

pub no_cell : (F : Graph) (n i j : ℕ) → in_column F j i ≡ false → cell F n i j ≡ None
unfolding cell
no_cell F n i j h = simp (and_right (ltb i n) (in_column F j i) h)

pub cell_out : (F : Graph) (n i j : ℕ) → n ≤ i → cell F n i j ≡ None
unfolding cell
cell_out F n i j h = simp (and_left (ltb i n) (in_column F j i) (le-ltb i n h))

pub rank_lt : (F : Graph) (j i n : ℕ) → in_column F j i ≡ true → i < n → rank F j i < rank F j n
rank_lt F j i n h lt = omega (arith, rank-suc F j i h, rank_mono F j (suc i) n lt)

pub start-mono : (F : Graph) (n a b : ℕ) → a ≤ b → start F n a ≤ start F n b
unfolding start
start-mono F n a zero h = let e : a ≡ 0 = omega arith in rw e (omega arith)
start-mono F n a (suc b) h = elim (cases_eq a (suc b)) [
  | inl e ↦ rw e (omega arith)
  | inr d ↦ (let h' : a ≤ b = omega (arith, d) in omega (arith, start-mono F n a b h'))
]

pub start-suc : (F : Graph) (n j : ℕ) → start F n (suc j) ≡ start F n j + rank F j n
unfolding start
start-suc F n j = refl

-- a row does not lie above its column
pub column-le : (F : Graph) (j i : ℕ) → in_column F j i ≡ true → j ≤ i
unfolding in_column
column-le F j i h = grind (arith, nat_tests)

pub record Spot (F : Graph) (n i j p : ℕ) : Type 0 where
  pub within : i < n
  pub here : in_column F j i ≡ true
  pub number : p ≡ start F n j + rank F j i

pub cell-some : (F : Graph) (n i j p : ℕ) → cell F n i j ≡ Some p → Spot F n i j p
unfolding cell
cell-some F n i j p h = elim (cases_Bool (ltb i n && in_column F j i)) [
  | inl t ↦ (let q = and_parts (ltb i n) (in_column F j i) t in
      let g : Some (start F n j + rank F j i) ≡ Some p = simp t at h in
      record { within = ltb-true i n q.0; here = q.1; number = cc })
  | inr f ↦ (let g : None ≡ Some p = simp f at h in let z : ◌≡◌ {A = ℕ} 0 1 = cc in absurd (omega arith))
]

pub some-cell : (F : Graph) (n i j : ℕ) → i < n → in_column F j i ≡ true → cell F n i j ≡ Some (start F n j + rank F j i)
unfolding cell
some-cell F n i j lt h = simp (lt-ltb i n lt, h)

-- a place lies in its column's part of the numbers
in-part : (F : Graph) (n i j p : ℕ) → Spot F n i j p → (start F n j ≤ p) × (p < start F n (suc j))
in-part F n i j p s = (omega (arith, s.number), omega (arith, s.number, start-suc F n j, rank_lt F j i n s.here s.within))

pub cell_below : (F : Graph) (n i j p : ℕ) → cell F n i j ≡ Some p → p < places F n
unfolding places
cell_below F n i j p h =
    let s = cell-some F n i j p h in
    let le : suc j ≤ n = omega (arith, column-le F j i s.here, s.within) in
    omega (arith, (in-part F n i j p s).1, start-mono F n (suc j) n le)

same-column : (F : Graph) (n i j a b p : ℕ) → Spot F n i j p → Spot F n a b p → j < b → ⊥
same-column F n i j a b p s t lt = omega (arith, (in-part F n i j p s).1, (in-part F n a b p t).0, start-mono F n (suc j) b lt)

same_row : (F : Graph) (n i j a p : ℕ) → Spot F n i j p → Spot F n a j p → i < a → ⊥
same_row F n i j a p s t lt = omega (arith, s.number, t.number, rank_lt F j i a s.here lt)

pub cell-once : (F : Graph) (n i j a b p : ℕ) → cell F n i j ≡ Some p → cell F n a b ≡ Some p → (i ≡ a) × (j ≡ b)
cell-once F n i j a b p h g = (row (cell-some F n i j p h) (cell-some F n a b p g), column (cell-some F n i j p h) (cell-some F n a b p g))
  where
    column : Spot F n i j p → Spot F n a b p → j ≡ b
    column s t = elim (cases_order j b) [
      | inl e ↦ e
      | inr (inl lt) ↦ absurd (same-column F n i j a b p s t lt)
      | inr (inr lt) ↦ absurd (same-column F n a b i j p t s lt)
    ]

    row : Spot F n i j p → Spot F n a b p → i ≡ a
    row s t =
        let e : j ≡ b = column s t in
        let t' : Spot F n a j p = rw e t in
        elim (cases_order i a) [
          | inl q ↦ q
          | inr (inl lt) ↦ absurd (same_row F n i j a p s t' lt)
          | inr (inr lt) ↦ absurd (same_row F n a j i p t' s lt)
        ]

-- each number below a rank is the rank of a member
rank-onto : (F : Graph) (j m q : ℕ) → q < rank F j m → (i : ℕ) × (i < m) × (in_column F j i ≡ true) × (rank F j i ≡ q)
unfolding rank
rank-onto F j zero q h = absurd (omega arith)
rank-onto F j (suc m) q h = elim (cases_lt q (rank F j m)) [
  | inl lt ↦ (let r = rank-onto F j m q lt in (r.0, omega (arith, r.1), r.2, r.3))
  | inr ge ↦ elim (cases_Bool (in_column F j m)) [
    | inl t ↦ (let h' : q < rank F j m + 1 = simp t at h in (m, omega arith, t, omega arith))
    | inr f ↦ (let h' : q < rank F j m + 0 = simp f at h in absurd (omega arith))
  ]
]

start-onto : (F : Graph) (n m p : ℕ) → p < start F n m → (j : ℕ) × (j < m) × (start F n j ≤ p) × (p < start F n j + rank F j n)
unfolding start
start-onto F n zero p h = absurd (omega arith)
start-onto F n (suc m) p h = elim (cases_lt p (start F n m)) [
  | inl lt ↦ (let r = start-onto F n m p lt in (r.0, omega (arith, r.1), r.2, r.3))
  | inr ge ↦ (m, omega arith, ge, h)
]

pub cell-all : (F : Graph) (n p : ℕ) → p < places F n → (i j : ℕ) × (cell F n i j ≡ Some p)
unfolding places
cell-all F n p h =
    let c = start-onto F n n p h in
    let j : ℕ = c.0 in
    let lt : p - start F n j < rank F j n = omega (arith, c.2, c.3) in
    let r = rank-onto F j n (p - start F n j) lt in
    let e : start F n j + rank F j r.0 ≡ p = omega (arith, c.2, r.3) in
    (r.0, j, some-cell F n r.0 j r.1 r.2 ∙ ap (λ (x : ℕ). Some x) e)

-- a column has its own position, and its later ones
pub rank-later : (F : Graph) (j i : ℕ) → rank F j i ≡ cond (ltb j i) 1 0 + later F j i
unfolding rank later in_column
rank-later F j zero = grind (arith, nat_tests)
rank-later F j (suc i) = let h = rank-later F j i in grind (arith, nat_tests)

start-pairs : (F : Graph) (n m : ℕ) → m ≤ n → start F n m ≡ m + pairs F n m
unfolding start pairs
start-pairs F n zero h = omega arith
start-pairs F n (suc m) h =
    let e : rank F m n ≡ 1 + later F m n = rank-later F m n ∙ simp (lt-ltb m n h) in
    omega (arith, e, start-pairs F n m (omega arith))

pub numbered : (F : Graph) (n : ℕ) → Numbered F n
unfolding places
numbered F n = record {
  below = cell_below F n;
  once = cell-once F n;
  all = cell-all F n;
  count = start-pairs F n n (omega arith);
}
