-- The two round trips.
use Rattle.std.proofs.Common.{◌≡◌, ℕ, zero, suc, ◌+◌, ◌-◌, ◌*◌, ◌/◌, ◌%◌, ◌^◌, ◌<◌, ◌≤◌, Bool, true, false, cond, ◌&&◌, eqb, List, [], ◌∷◌, map, length, get_or, None, Ok, Option, sym, refl, ap, ◌∙◌, subst, ap₂, ⊎_elim, mul-le-mul, arith}
use Rattle.std.specs.List.{range_with_len}
use Rattle.std.proofs.lemmas.List.{get_or_append_left, get_or-append-add, length-append, ext_get_or}
use Rattle.std.proofs.lemmas.List.FromFn.{length-map-range_with_len, get_or-map-range_with_len}
use Rattle.std.proofs.lemmas.Bool.{cases_lt, cases_eq, eq-eqb, eqb-true, le-ltb, lt-ltb, le-leb, and_from, and_parts, or_left, or_right, not_from_false}
use Rattle.network.proofs.Faults.{cond-none, cond-none-else, or_else-none, none-or_else, no-fault, unless-ok}
use Rattle.network.proofs.Found.{Found, Small, found, holds}
use Rattle.network.proofs.Marks.{unnamed}
use Rattle.network.proofs.Places.{place-within, width-holds}
use Rattle.network.proofs.Standing.{pack-holds, holds-pack}
use Rattle.network.specs.Decode.{place_for, value_at, header_fault, pair_fault, placed_fault, end_fault, body_fault, fault, sheet_of, couplings_of, order_of, decode}
use Rattle.network.specs.Fields.{field, is_in}
use Rattle.network.specs.Laws.{WrittenReads, ReadWrites}
use Rattle.network.specs.Refusals.{Fault, refuse, or_else, first_fault, unless}
use Rattle.network.specs.Sheets.{Sheet, Well, flat, named, pair_at, before, width, encode, bits_in}

-- ---- stations in a row

pub length-flat : (ps : List (ℕ × ℕ)) → length (flat ps) ≡ 2 * length ps
unfolding flat
length-flat [] = refl
length-flat (p ∷ ps) = omega (arith, length-flat ps)

first_flat : (ps : List (ℕ × ℕ)) (k : ℕ) → k < length ps → get_or (flat ps) (2 * k) 0 ≡ (get_or ps k (0, 0)).0
unfolding flat
first_flat [] k h = absurd (omega arith)
first_flat (p ∷ ps) zero h = refl
first_flat (p ∷ ps) (suc k) h = let e : 2 * suc k ≡ suc (suc (2 * k)) = omega arith in rw e (first_flat ps k (omega arith))

second-flat : (ps : List (ℕ × ℕ)) (k : ℕ) → k < length ps → get_or (flat ps) (2 * k + 1) 0 ≡ (get_or ps k (0, 0)).1
unfolding flat
second-flat [] k h = absurd (omega arith)
second-flat (p ∷ ps) zero h = refl
second-flat (p ∷ ps) (suc k) h = let e : 2 * suc k + 1 ≡ suc (suc (2 * k + 1)) = omega arith in rw e (second-flat ps k (omega arith))

pub length-named : (s : Sheet) → length (named s) ≡ 2 * length s.couplings + length s.order
length-named s = length-append (flat s.couplings) s.order ∙ omega (arith, length-flat s.couplings)

pub named-first : (s : Sheet) (k : ℕ) → k < length s.couplings → get_or (named s) (2 * k) 0 ≡ (pair_at s k).0
named-first s k h =
    get_or_append_left (flat s.couplings) s.order 0 (2 * k) (omega (arith, length-flat s.couplings)) ∙ first_flat s.couplings k h

pub named-second : (s : Sheet) (k : ℕ) → k < length s.couplings → get_or (named s) (2 * k + 1) 0 ≡ (pair_at s k).1
named-second s k h =
    get_or_append_left (flat s.couplings) s.order 0 (2 * k + 1) (omega (arith, length-flat s.couplings)) ∙ second-flat s.couplings k h

pub named-order : (s : Sheet) (k : ℕ) → get_or (named s) (2 * length s.couplings + k) 0 ≡ get_or s.order k 0
named-order s k =
    ap (λ (x : ℕ). get_or (named s) (x + k) 0) (sym (length-flat s.couplings)) ∙ get_or-append-add (flat s.couplings) s.order k 0

-- ---- what is written is read

pub pairs-few : (n m : ℕ) → n ≤ 512 → m ≤ n * (n - 1) / 2 → m < 131072
pairs-few n m h l =
    let d : n - 1 ≤ 511 = omega arith in
    let e : n * (n - 1) ≤ 512 * 511 = mul-le-mul h d in
    omega arith

small : (s : Sheet) → Well s → Small s
small s well =
    let m = length s.couplings in
    let fits : s.size ≤ 2 ^ width s.size = width-holds s.size well.few in
    record {
      size = omega (arith, well.few);
      count = pairs-few s.size m well.few well.few_pairs;
      values = λ i h. ⊎_elim
          (λ lt. let k = i / 2 in
          let hk : k < m = omega arith in
          ⊎_elim
          (λ e. let q : i ≡ 2 * k = omega arith in
          omega (arith, ap (λ (x : ℕ). get_or (named s) x 0) q, named-first s k hk, well.inside k hk))
          (λ ne. let q : i ≡ 2 * k + 1 = omega arith in
          omega (arith, ap (λ (x : ℕ). get_or (named s) x 0) q, named-second s k hk, well.inside k hk, well.falling k hk))
          (cases_eq (i % 2) 0))
          (λ ge. let k = i - 2 * m in
          let hk : k < s.size = omega (arith, length-named s, well.whole) in
          let q : i ≡ 2 * m + k = omega arith in
          omega (arith, ap (λ (x : ℕ). get_or (named s) x 0) q, named-order s k, well.known k hk))
          (cases_lt i (2 * m));
    }

none-cond : (b : Bool) (x : Option Fault) (n p : ℕ) → b ≡ true → x ≡ None → cond b x (refuse n p) ≡ None
none-cond true x n p h g = g
none-cond false x n p h g = absurd (let z : ◌≡◌ {A = ℕ} 0 1 = cc in omega arith)

none-cond-else : (b : Bool) (x : Option Fault) (n p : ℕ) → b ≡ false → x ≡ None → cond b (refuse n p) x ≡ None
none-cond-else true x n p h g = absurd (let z : ◌≡◌ {A = ℕ} 0 1 = cc in omega arith)
none-cond-else false x n p h g = g

header-fine : (bs : List ℕ) (s : Sheet) → Found bs s → Well s → header_fault bs ≡ None
unfolding header_fault place_for
header-fine bs s f well =
    let e : field bs 5 10 * (field bs 5 10 - 1) / 2 ≡ s.size * (s.size - 1) / 2 = ap (λ (x : ℕ). x * (x - 1) / 2) f.size in
    let n = field bs 5 10 in
    none-cond-else _ _ 1 0 (le-ltb (length bs) 4 (omega (arith, f.long)))
    (none-cond _ _ 2 0 (eq-eqb _ _ f.kind)
    (none-cond _ _ 3 5 (and_from _ _ (le-leb 1 n (omega (arith, f.size, well.some))) (le-leb n 512 (omega (arith, f.size, well.few))))
    (none-cond _ _ 4 15 (le-leb (field bs 15 17) (n * (n - 1) / 2) (omega (arith, e, f.count, well.few_pairs))) refl)))

is-in : (bs : List ℕ) (s : Sheet) → Found bs s → (i : ℕ) → i < length (named s) → is_in bs (place_for (width s.size) i) (width s.size) ≡ true
is-in bs s f i h = le-leb _ _ (omega (arith, f.long, place-within (width s.size) i (length (named s)) h))

pair-fine : (bs : List ℕ) (s : Sheet) → Found bs s → Well s → (k : ℕ) → k < length s.couplings → pair_fault bs s.size (width s.size) k ≡ None
unfolding pair_fault
pair-fine bs s f well k h =
    let w = width s.size in
    let l = length-named s in
    let first : (j : ℕ) → j < length s.couplings → value_at bs w (2 * j) ≡ (pair_at s j).0 =
    λ j hj. f.values (2 * j) (omega (arith, l)) ∙ named-first s j hj in
    let second : (j : ℕ) → j < length s.couplings → value_at bs w (2 * j + 1) ≡ (pair_at s j).1 =
    λ j hj. f.values (2 * j + 1) (omega (arith, l)) ∙ named-second s j hj in
    none-cond _ _ 1 _ (is-in bs s f (2 * k) (omega (arith, l)))
    (none-cond _ _ 1 _ (is-in bs s f (2 * k + 1) (omega (arith, l)))
    (none-cond _ _ 5 _
    (and_from _ _ (lt-ltb (value_at bs w (2 * k)) s.size (omega (arith, first k h, well.inside k h)))
    (lt-ltb (value_at bs w (2 * k + 1)) (value_at bs w (2 * k)) (omega (arith, first k h, second k h, well.falling k h))))
    (none-cond _ _ 6 _
    (⊎_elim (λ z. or_left _ _ (eq-eqb k 0 z))
    (λ nz. or_right (eqb k 0) _
    (let j = k - 1 in
    let hj : suc j < length s.couplings = omega arith in
    let hk : j < length s.couplings = omega arith in
    let q : suc j ≡ k = omega arith in
    let a : value_at bs w (2 * k - 2) ≡ (pair_at s j).0 = ap (value_at bs w) (omega arith) ∙ first j hk in
    let b : value_at bs w (2 * k - 1) ≡ (pair_at s j).1 = ap (value_at bs w) (omega arith) ∙ second j hk in
    let c : value_at bs w (2 * k) ≡ (pair_at s (suc j)).0 = first k h ∙ ap (λ (x : ℕ). (pair_at s x).0) (sym q) in
    let d : value_at bs w (2 * k + 1) ≡ (pair_at s (suc j)).1 = second k h ∙ ap (λ (x : ℕ). (pair_at s x).1) (sym q) in
    ap₂ (λ (x y : ℕ). before x y (value_at bs w (2 * k)) (value_at bs w (2 * k + 1))) a b
    ∙ ap₂ (λ (x y : ℕ). before (pair_at s j).0 (pair_at s j).1 x y) c d ∙ well.rising j hj))
    (cases_eq k 0))
    refl)))

order_value : (bs : List ℕ) (s : Sheet) → Found bs s → Well s → (k : ℕ) → k < s.size
    → value_at bs (width s.size) (2 * length s.couplings + k) ≡ get_or s.order k 0
order_value bs s f well k h = f.values (2 * length s.couplings + k) (omega (arith, length-named s, well.whole)) ∙ named-order s k

order-fine : (bs : List ℕ) (s : Sheet) → Found bs s → Well s → (k : ℕ) → k < s.size
    → placed_fault bs s.size (width s.size) (2 * length s.couplings) k ≡ None
unfolding placed_fault
order-fine bs s f well k h =
    let value = order_value bs s f well in
    none-cond _ _ 1 _ (is-in bs s f (2 * length s.couplings + k) (omega (arith, length-named s, well.whole)))
    (none-cond _ _ 7 _
    (and_from _ _ (lt-ltb (value_at bs (width s.size) (2 * length s.couplings + k)) s.size (omega (arith, value k h, well.known k h)))
    (not_from_false _ (unnamed (λ i. value_at bs (width s.size) (2 * length s.couplings + i)) k _
    (λ j lt e. well.once j k lt h (sym (value j (omega arith)) ∙ e ∙ value k h)))))
    refl)

end-fine : (bs : List ℕ) (s : Sheet) → Found bs s → Well s → end_fault bs (place_for (width s.size) (2 * length s.couplings + s.size)) ≡ None
unfolding end_fault
end-fine bs s f well =
    let l : length (named s) ≡ 2 * length s.couplings + s.size = length-named s ∙ omega (arith, well.whole) in
    ap (λ (x : ℕ). end_fault bs (place_for (width s.size) x)) (sym l)
    ∙ none-cond _ _ 8 _ (and_from _ _ (eq-eqb _ _ f.long) (eq-eqb _ _ f.fill)) refl

same-sheet : (bs : List ℕ) (s : Sheet) → Found bs s → Well s → sheet_of bs s.size (length s.couplings) ≡ s
unfolding couplings_of order_of
same-sheet bs s f well =
    let w = width s.size in
    let m = length s.couplings in
    let l = length-named s in
    let pair : ℕ → ℕ × ℕ = λ k. (value_at bs w (2 * k), value_at bs w (2 * k + 1)) in
    let station : ℕ → ℕ = λ k. value_at bs w (2 * m + k) in
    let cs : map pair (range_with_len 0 m) ≡ s.couplings =
    ext_get_or (0, 0) _ _ (length-map-range_with_len pair 0 m)
    (λ i h. let hi : i < m = omega (arith, length-map-range_with_len pair 0 m) in
    get_or-map-range_with_len pair 0 m i i (0, 0) hi (omega arith)
    ∙ ap₂ (λ (x y : ℕ). (x, y))
    (f.values (2 * i) (omega (arith, l)) ∙ named-first s i hi)
    (f.values (2 * i + 1) (omega (arith, l)) ∙ named-second s i hi)) in
    let os : map station (range_with_len 0 s.size) ≡ s.order =
    ext_get_or 0 _ _ (length-map-range_with_len station 0 s.size ∙ sym well.whole)
    (λ i h. let hi : i < s.size = omega (arith, length-map-range_with_len station 0 s.size) in
    get_or-map-range_with_len station 0 s.size i i 0 hi (omega arith) ∙ order_value bs s f well i hi) in
    let make : List (ℕ × ℕ) → List ℕ → Sheet = λ c o. record { size = s.size; couplings = c; order = o } in
    ap₂ make cs os

pub read_back : (bs : List ℕ) (s : Sheet) → Found bs s → Well s → decode bs ≡ Ok s
unfolding decode fault body_fault
read_back bs s f well =
    let body : body_fault bs s.size (length s.couplings) ≡ None =
    none-or_else _ _ (no-fault _ _ (pair-fine bs s f well))
    (none-or_else _ _ (no-fault _ _ (order-fine bs s f well)) (end-fine bs s f well)) in
    ap₂ unless
    (none-or_else (header_fault bs) _ (header-fine bs s f well) (ap₂ (body_fault bs) f.size f.count ∙ body))
    (ap₂ (sheet_of bs) f.size f.count ∙ same-sheet bs s f well)

pub written-reads : WrittenReads
unfolding encode
written-reads s well = read_back (encode s) s (found (encode s) s (small s well) (pack-holds (bits_in s))) well

-- ---- what is read is written

pub found_in : (bs : List ℕ) → fault bs ≡ None → Found bs (sheet_of bs (field bs 5 10) (field bs 15 17))
unfolding fault body_fault header_fault end_fault couplings_of order_of
found_in bs h =
    let n = field bs 5 10 in
    let m = field bs 15 17 in
    let w = width n in
    let s = sheet_of bs n m in
    let pair : ℕ → ℕ × ℕ = λ k. (value_at bs w (2 * k), value_at bs w (2 * k + 1)) in
    let station : ℕ → ℕ = λ k. value_at bs w (2 * m + k) in
    let lp : length s.couplings ≡ m = length-map-range_with_len pair 0 m in
    let lo : length s.order ≡ n = length-map-range_with_len station 0 n in
    let l : length (named s) ≡ 2 * m + n = length-named s ∙ omega arith in
    let h0 = or_else-none (header_fault bs) (body_fault bs n m) h in
    let h1 = cond-none-else _ _ 1 0 h0.0 in
    let h2 = cond-none _ _ 2 0 h1.1 in
    let t = place_for w (2 * m + n) in
    let h3 = or_else-none (first_fault (pair_fault bs n w) m) (or_else (first_fault (placed_fault bs n w (2 * m)) n) (end_fault bs t)) h0.1 in
    let h4 = or_else-none (first_fault (placed_fault bs n w (2 * m)) n) (end_fault bs t) h3.1 in
    let h5 = cond-none (eqb (length bs) ((t + 7) / 8) && eqb (field bs t (8 * ((t + 7) / 8) - t)) 0) None 8 t h4.1 in
    let h6 = and_parts (eqb (length bs) ((t + 7) / 8)) (eqb (field bs t (8 * ((t + 7) / 8) - t)) 0) h5.0 in
    record {
      kind = eqb-true _ _ h2.0;
      size = refl;
      count = sym lp;
      values = λ i hi. ⊎_elim
          (λ lt. let k = i / 2 in
          let hk : k < m = omega arith in
          let hs : k < length s.couplings = omega arith in
          let at : pair_at s k ≡ pair k = get_or-map-range_with_len pair 0 m k k (0, 0) hk (omega arith) in
          ⊎_elim
          (λ e. let q : 2 * k ≡ i = omega arith in
          sym (ap (λ (x : ℕ). get_or (named s) x 0) (sym q) ∙ named-first s k hs ∙ ap (λ (x : ℕ × ℕ). x.0) at ∙ ap (value_at bs w) q))
          (λ ne. let q : 2 * k + 1 ≡ i = omega arith in
          sym (ap (λ (x : ℕ). get_or (named s) x 0) (sym q) ∙ named-second s k hs ∙ ap (λ (x : ℕ × ℕ). x.1) at ∙ ap (value_at bs w) q))
          (cases_eq (i % 2) 0))
          (λ ge. let k = i - 2 * m in
          let hk : k < n = omega arith in
          let q : 2 * m + k ≡ i = omega arith in
          sym (ap (λ (x : ℕ). get_or (named s) x 0) (sym q ∙ ap (λ (x : ℕ). 2 * x + k) (sym lp)) ∙ named-order s k
          ∙ get_or-map-range_with_len station 0 n k k 0 hk (omega arith) ∙ ap (value_at bs w) q))
          (cases_lt i (2 * m));
      long = eqb-true _ _ h6.0 ∙ ap (λ (x : ℕ). (place_for w x + 7) / 8) (sym l);
      fill = let P : ℕ → Type 0 = λ x. field bs (place_for w x) (8 * ((place_for w x + 7) / 8) - place_for w x) ≡ 0 in
          subst P (sym l) (eqb-true _ _ h6.1);
    }

pub read-writes : ReadWrites
unfolding encode decode
read-writes bs s b h =
    let both = unless-ok (fault bs) (sheet_of bs (field bs 5 10) (field bs 15 17)) s (sym h) in
    let f : Found bs s = subst (Found bs) (sym both.1) (found_in bs both.0) in
    holds-pack bs (bits_in s) b (holds bs s f)
