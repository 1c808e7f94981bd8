-- Lists as orders: lengths, positions, and the check that tells their faults.
use Rattle.std.proofs.Common.{◌≡◌, ℕ, zero, suc, ◌+◌, ◌<◌, ◌≤◌, true, false, not, ◌&&◌, eqb, ltb, leb, ◌≢◌, List, [], ◌∷◌, ◌++◌, length, get_or, take, is_some, Some, None, filter, Option, sym, refl, ap, ◌∙◌, subst, inl, inr, ⊎_elim, arith, get_or-take}
use Rattle.std.proofs.lemmas.List.{take_all, take_more}
use Rattle.std.proofs.lemmas.Bool.{both_ways, cases_Bool, cases_eq, cases_order, eq-eqb, eqb-true, ne_eqb, lt-ltb, ltb-true, le-leb, leb-true, and_parts, and_from, not-true, not_from_false, cond-true, cond-false}
use Rattle.network.specs.Refusals.{first_fault, refuse}
use Rattle.network.specs.Orders.{order_fault, station_fault, among}
use Rattle.network.proofs.Faults.{cond-none, each_none, no-fault}
use Rattle.network.proofs.Marks.{named-nowhere, unnamed}
use Rattle.elimination.specs.Orders.{In, Distinct, Order, up_to, member, position_of}
use Rattle.elimination.specs.Kept.{Named, Found, Placed}
use Rattle.elimination.specs.View.{listed}
use Rattle.elimination.specs.declared.order.EliminationOrder.{EliminationOrder}
use Rattle.elimination.proofs.Relations.{in_parts, in-up_to, up_to-in}
use Rattle.elimination.proofs.Members.{in-member, member-in, in_kept, kept_in, distinct-kept, but, but-self, but-other, but-apart}

-- ---- indices

pub get_or-in : (xs : List ℕ) (j : ℕ) → j < length xs → In (get_or xs j 0) xs
get_or-in [] j h = absurd (let no : ⊥ = omega arith in no)
get_or-in (x ∷ xs) zero h = inl refl
get_or-in (x ∷ xs) (suc j) h = inr (get_or-in xs j (omega arith))

pub index_of : (xs : List ℕ) (a : ℕ) → In a xs → (i : ℕ) × (i < length xs) × (get_or xs i 0 ≡ a)
index_of [] a m = absurd m
index_of (x ∷ xs) a (inl e) = (0, omega arith, sym e)
index_of (x ∷ xs) a (inr m) = let r = index_of xs a m in (suc r.0, omega (arith, r.1), r.2)

-- different places have different stations
abbrev pub Apart : List ℕ → Type 0
Apart xs = (j k : ℕ) → j < k → k < length xs → get_or xs j 0 ≢ get_or xs k 0

pub distinct_apart : (xs : List ℕ) → Distinct xs → Apart xs
distinct_apart [] d j k l h q = absurd (let no : ⊥ = omega arith in no)
distinct_apart (x ∷ xs) d zero zero l h q = absurd (let no : ⊥ = omega arith in no)
distinct_apart (x ∷ xs) d zero (suc k) l h q = d.0 (rw (sym q) at (get_or-in xs k (omega arith)))
distinct_apart (x ∷ xs) d (suc j) zero l h q = absurd (let no : ⊥ = omega arith in no)
distinct_apart (x ∷ xs) d (suc j) (suc k) l h q = distinct_apart xs d.1 j k (omega arith) (omega arith) q

pub apart_distinct : (xs : List ℕ) → Apart xs → Distinct xs
apart_distinct [] f = tt
apart_distinct (x ∷ xs) f = ((λ i. let r = index_of xs x i in f 0 (suc r.0) (omega arith) (omega (arith, r.1)) (sym r.2)), apart_distinct xs (λ j k l h. f (suc j) (suc k) (omega arith) (omega arith)))

pub same_place : (xs : List ℕ) → Distinct xs → (j k : ℕ) → j < length xs → k < length xs → get_or xs j 0 ≡ get_or xs k 0 → j ≡ k
same_place xs d j k hj hk q =
    ⊎_elim (λ (e : j ≡ k). e)
    (⊎_elim (λ (l : j < k). absurd (distinct_apart xs d j k l hk q)) (λ (l : k < j). absurd (distinct_apart xs d k j l hj (sym q))))
    (cases_order j k)

pub position_of_station : (xs : List ℕ) (k : ℕ) → Distinct xs → k < length xs → position_of xs (get_or xs k 0) ≡ k
position_of_station [] k d h = absurd (let no : ⊥ = omega arith in no)
position_of_station (x ∷ xs) zero d h = cond-true (eqb x x) 0 (suc (position_of xs x)) (eq-eqb x x refl)
position_of_station (x ∷ xs) (suc k) d h =
    cond-false (eqb x (get_or xs k 0)) 0 (suc (position_of xs (get_or xs k 0))) (ne_eqb x (get_or xs k 0) (λ q. d.0 (rw (sym q) at (get_or-in xs k (omega arith)))))
    ∙ ap suc (position_of_station xs k d.1 (omega arith))

-- ---- lengths

-- a list without one that it lacks
pub kept_same : (y : ℕ) (xs : List ℕ) → (In y xs → ⊥) → filter (but y) xs ≡ xs
kept_same y [] f = refl
kept_same y (x ∷ xs) f = let e = but-other y x (λ q. f (inl (sym q))) in simp e (ap (λ (zs : List ℕ). x ∷ zs) (kept_same y xs (λ i. f (inr i))))

pub kept-one : (y : ℕ) (xs : List ℕ) → Distinct xs → In y xs → length xs ≡ length (filter (but y) xs) + 1
kept-one y [] d i = absurd i
kept-one y (x ∷ xs) d i = ⊎_elim here (there (kept-one y xs d.1)) (cases_eq y x)
  where
    here : y ≡ x → length (x ∷ xs) ≡ length (filter (but y) (x ∷ xs)) + 1
    here q =
        let e : but y x ≡ false = ap (but y) (sym q) ∙ but-self y in
        let k : length (filter (but y) xs) ≡ length xs = ap length (kept_same y xs (λ m. d.0 (rw q at m))) in
        simp e (omega arith)

    there : (In y xs → length xs ≡ length (filter (but y) xs) + 1) → (y ≡ x → ⊥) → length (x ∷ xs) ≡ length (filter (but y) (x ∷ xs)) + 1
    there ih q =
        let e : but y x ≡ true = but-other y x (λ r. q (sym r)) in
        let k : length xs ≡ length (filter (but y) xs) + 1 = ih (later i) in
        simp e (omega arith)
      where
        later : In y (x ∷ xs) → In y xs
        later (inl r) = absurd (q r)
        later (inr m) = m

-- distinct stations below n are at most n
at_most : (n : ℕ) (xs : List ℕ) → Distinct xs → ((a : ℕ) → In a xs → a < n) → length xs ≤ n
at_most zero [] d f = omega arith
at_most zero (x ∷ xs) d f = absurd (let l : x < 0 = f x (inl refl) in let no : ⊥ = omega arith in no)
at_most (suc n) xs d f = ⊎_elim (there (λ ys. at_most n ys)) (gone (λ ys. at_most n ys)) (cases_Bool (member n xs))
  where
    there : ((ys : List ℕ) → Distinct ys → ((a : ℕ) → In a ys → a < n) → length ys ≤ n) → member n xs ≡ true → length xs ≤ suc n
    there ih t =
        let one = kept-one n xs d (in-member n xs t) in
        let le = ih (filter (but n) xs) (distinct-kept (but n) xs d)
        (λ a i. let k = kept_in (but n) a xs i in let m : a ≢ n = but-apart n a k.1 in let l : a < suc n = f a k.0 in let r : a < n = omega arith in r) in
        omega arith

    gone : ((ys : List ℕ) → Distinct ys → ((a : ℕ) → In a ys → a < n) → length ys ≤ n) → member n xs ≡ false → length xs ≤ suc n
    gone ih t =
        let le = ih xs d
        (λ a i. let m : a ≢ n = λ q. both_ways (member n xs) t (ap (λ (b : ℕ). member b xs) (sym q) ∙ member-in a xs i) in let l : a < suc n = f a i in let r : a < n = omega arith in r) in
        omega arith

-- distinct stations below n, n of them, are all stations
full : (n : ℕ) (xs : List ℕ) → Distinct xs → ((a : ℕ) → In a xs → a < n) → length xs ≡ n → (a : ℕ) → a < n → In a xs
full n xs d f e a h = ⊎_elim (λ (t : member a xs ≡ true). in-member a xs t) (λ (t : member a xs ≡ false). absurd (no t)) (cases_Bool (member a xs))
  where
    no : member a xs ≡ false → ⊥
    no t =
        let m = at_most n (a ∷ xs) ((λ i. both_ways (member a xs) t (member-in a xs i)), d) (λ b i. ⊎_elim (λ (q : b ≡ a). rw q h) (λ (m : In b xs). f b m) i) in
        omega arith

-- an order without its largest station
pub order-without : (n : ℕ) (xs : List ℕ) → Order (suc n) xs → Order n (filter (but n) xs)
order-without n xs o =
    record {
      once = distinct-kept (but n) xs o.once;
      all = λ a h. in_kept (but n) a xs (o.all a (omega arith)) (but-other n a (λ q. omega arith));
      only = λ a i. (let k = kept_in (but n) a xs i in let m : a ≢ n = but-apart n a k.1 in let l : a < suc n = o.only a k.0 in omega arith);
    }

-- an order of n stations has n members
pub order-length : (n : ℕ) (xs : List ℕ) → Order n xs → length xs ≡ n
order-length zero [] o = refl
order-length zero (x ∷ xs) o = absurd (let f : x < 0 = o.only x (inl refl) in let no : ⊥ = omega arith in no)
order-length (suc n) xs o =
    let one = kept-one n xs o.once (o.all n (omega arith)) in
    let ih : length (filter (but n) xs) ≡ n = order-length n (filter (but n) xs) (order-without n xs o) in
    omega arith

-- ---- the check of orders

station-none : (xs : List ℕ) (n k : ℕ) → station_fault xs n k ≡ None → (get_or xs k 0 < n) × ((j : ℕ) → j < k → get_or xs j 0 ≡ get_or xs k 0 → ⊥)
unfolding station_fault
station-none xs n k e =
    let t = and_parts (ltb (get_or xs k 0) n) (not (among xs k (get_or xs k 0))) (cond-none (ltb (get_or xs k 0) n && not (among xs k (get_or xs k 0))) None 14 k e).0 in
    (ltb-true (get_or xs k 0) n t.0, named-nowhere (λ k. get_or xs k 0) k (get_or xs k 0) (not-true (among xs k (get_or xs k 0)) t.1))

none-station : (xs : List ℕ) (n k : ℕ) → get_or xs k 0 < n → ((j : ℕ) → j < k → get_or xs j 0 ≡ get_or xs k 0 → ⊥) → station_fault xs n k ≡ None
unfolding station_fault
none-station xs n k h f =
    cond-true (ltb (get_or xs k 0) n && not (among xs k (get_or xs k 0))) None (refuse 14 k)
    (and_from (ltb (get_or xs k 0) n) (not (among xs k (get_or xs k 0))) (lt-ltb (get_or xs k 0) n h) (not_from_false (among xs k (get_or xs k 0)) (unnamed (λ k. get_or xs k 0) k (get_or xs k 0) f)))

pub fault-parts : (xs : List ℕ) (n : ℕ) → order_fault xs n ≡ None → (length xs ≡ n) × (n ≤ 512) × (first_fault (station_fault xs n) n ≡ None)
fault-parts xs n e =
    let t = cond-none (eqb (length xs) n && leb n 512) (first_fault (station_fault xs n) n) 13 (length xs) e in
    let p = and_parts (eqb (length xs) n) (leb n 512) t.0 in
    (eqb-true (length xs) n p.0, leb-true n 512 p.1, t.1)

pub fault-order : (xs : List ℕ) (n : ℕ) → order_fault xs n ≡ None → Order n xs
fault-order xs n e =
    let p = fault-parts xs n e in
    let at : (k : ℕ) → k < n → (get_or xs k 0 < n) × ((j : ℕ) → j < k → get_or xs j 0 ≡ get_or xs k 0 → ⊥) = λ k h. station-none xs n k (each_none (station_fault xs n) n p.2 k h) in
    let l : length xs ≡ n = p.0 in
    let d : Distinct xs = apart_distinct xs (λ j k lt h. (at k (omega arith)).1 j lt) in
    let only : (a : ℕ) → In a xs → a < n = λ a i. (let r = index_of xs a i in subst (λ (b : ℕ). b < n) r.2 (at r.0 (omega (arith, r.1))).0) in
    record { once = d; all = full n xs d only l; only = only }

pub order-fault : (xs : List ℕ) (n : ℕ) → n ≤ 512 → Order n xs → order_fault xs n ≡ None
order-fault xs n few o =
    let l = order-length n xs o in
    cond-true (eqb (length xs) n && leb n 512) (first_fault (station_fault xs n) n) (refuse 13 (length xs)) (and_from (eqb (length xs) n) (leb n 512) (eq-eqb (length xs) n l) (le-leb n 512 few))
    ∙ no-fault (station_fault xs n) n (λ k h. none-station xs n k (o.only _ (get_or-in xs k (omega arith))) (λ j lt. distinct_apart xs o.once j k lt (omega arith)))

-- ---- the rising order

distinct_snoc : (ys : List ℕ) (y : ℕ) → Distinct ys → (In y ys → ⊥) → Distinct (ys ++ (y ∷ []))
distinct_snoc [] y d f = ((λ i. i), tt)
distinct_snoc (x ∷ ys) y d f = (
  (λ i. ⊎_elim d.0 (λ (m : In x (y ∷ [])). ⊎_elim (λ (q : x ≡ y). f (inl (sym q))) (λ (z : ⊥). z) m) (in_parts x ys (y ∷ []) i)),
  distinct_snoc ys y d.1 (λ i. f (inr i)),
)

distinct-up_to : (n : ℕ) → Distinct (up_to n)
distinct-up_to zero = tt
distinct-up_to (suc n) = distinct_snoc (up_to n) n (distinct-up_to n) (λ i. let l : n < n = up_to-in n n i in let no : ⊥ = omega arith in no)

pub up_to-order : (n : ℕ) → Order n (up_to n)
up_to-order n = record { once = distinct-up_to n; all = in-up_to n; only = up_to-in n }

-- places that hold their own numbers are the stations, rising
pub up_to-places : (xs : List ℕ) (n : ℕ) → n ≤ length xs → ((j : ℕ) → j < n → get_or xs j 0 ≡ j) → take n xs ≡ up_to n
up_to-places xs zero h f = refl
up_to-places xs (suc n) h f =
    let e : n + 1 ≡ suc n = omega arith in
    sym (ap (λ (m : ℕ). take m xs) e) ∙ take_more xs n 0 (omega arith)
    ∙ ap (λ (ys : List ℕ). ys ++ (get_or xs n 0 ∷ [])) (up_to-places xs n (omega arith) (λ j l. f j (omega arith)))
    ∙ ap (λ (a : ℕ). up_to n ++ (a ∷ [])) (f n (omega arith))

-- ---- positions

pub none_from : {X : Type 0} (o : Option X) → is_some o ≡ false → o ≡ None
none_from None e = refl
none_from (Some x) e = absurd (both_ways true e refl)

module _ (size : ℕ) (stations : List ℕ) (few : size ≤ length stations) (named : Named size stations) where
  pub named-order : Order size (take size stations)
  named-order = fault-order (take size stations) size (none_from (order_fault (take size stations) size) named)

  pub named-length : length (take size stations) ≡ size
  named-length = order-length size (take size stations) named-order

  pub named_small : (k : ℕ) → k < size → get_or stations k 0 < size
  named_small k h =
      let l = named-length in
      subst (λ (a : ℕ). a < size) (get_or-take size stations k 0 h) (named-order.only _ (get_or-in (take size stations) k (omega arith)))

  pub named-apart : (j k : ℕ) → j < k → k < size → get_or stations j 0 ≢ get_or stations k 0
  named-apart j k lt h q =
      let l = named-length in
      distinct_apart (take size stations) named-order.once j k lt (omega arith) (get_or-take size stations j 0 (omega arith) ∙ q ∙ sym (get_or-take size stations k 0 h))

  -- where each station is found at its position, each position holds its station
  pub found-placed : (positions : List ℕ) → Found size stations positions → Placed size stations positions
  found-placed positions f s h = back s (index_of (take size stations) s (named-order.all s h))
    where
      back : (s : ℕ) → ((i : ℕ) × (i < length (take size stations)) × (get_or (take size stations) i 0 ≡ s)) → (get_or positions s 0 < size) × (get_or stations (get_or positions s 0) 0 ≡ s)
      back s r =
          let l = named-length in
          let h : r.0 < size = omega (arith, r.1) in
          let q : get_or stations r.0 0 ≡ s = sym (get_or-take size stations r.0 0 h) ∙ r.2 in
          let e : get_or positions s 0 ≡ r.0 = ap (λ (a : ℕ). get_or positions a 0) (sym q) ∙ f r.0 h in
          (subst (λ (a : ℕ). a < size) (sym e) h, ap (λ (a : ℕ). get_or stations a 0) e ∙ q)

  -- the position that is kept is the position in the list
  pub kept-position : (positions : List ℕ) → Placed size stations positions → (s : ℕ) → s < size → get_or positions s 0 ≡ position_of (take size stations) s
  kept-position positions p s h =
      let t = p s h in
      let l = named-length in
      let k : ℕ = get_or positions s 0 in
      let lt : k < length (take size stations) = omega (arith, t.0) in
      sym (ap (position_of (take size stations)) (sym (get_or-take size stations k 0 t.0 ∙ t.1)) ∙ position_of_station (take size stations) k named-order.once lt)

-- a list that passes the check names its own stations
pub list-named : (xs : List ℕ) → order_fault xs (length xs) ≡ None → Named (length xs) xs
list-named xs f = ap (λ (ys : List ℕ). is_some (order_fault ys (length xs))) (take_all (length xs) xs (omega arith)) ∙ ap is_some f

-- a list that passes the check passes it with its own length
pub fault-own : (xs : List ℕ) (n : ℕ) → order_fault xs n ≡ None → order_fault xs (length xs) ≡ None
fault-own xs n f = ap (order_fault xs) (fault-parts xs n f).0 ∙ f

-- ---- the order type

pub order-of : (order : EliminationOrder) → Order order.size (listed order)
order-of order = fault-order (listed order) order.size (none_from (order_fault (listed order) order.size) order.named)

pub listed-length : (order : EliminationOrder) → length (listed order) ≡ order.size
listed-length order = order-length order.size (listed order) (order-of order)

-- each station of an order is below its size
pub listed_small : (order : EliminationOrder) (k : ℕ) → k < length (listed order) → get_or (listed order) k 0 < order.size
listed_small order k h = (order-of order).only _ (get_or-in (listed order) k h)

pub order-sized : (order : EliminationOrder) (n : ℕ) → order.size ≡ n → Order n (listed order)
order-sized order n e = subst (λ (m : ℕ). Order m (listed order)) e (order-of order)

-- what is kept for a position is the station there, and what is kept for a station is its position
module _ (order : EliminationOrder) where
  pub station_kept : (k : ℕ) → k < order.size → get_or order.stations k 0 ≡ get_or (listed order) k 0
  station_kept k h = sym (get_or-take order.size order.stations k 0 h)

  pub station_small : (k : ℕ) → k < order.size → get_or order.stations k 0 < order.size
  station_small k h = let l = listed-length order in subst (λ (a : ℕ). a < order.size) (get_or-take order.size order.stations k 0 h) (listed_small order k (omega arith))

  pub position_kept : (s : ℕ) → s < order.size → get_or order.positions s 0 ≡ position_of (listed order) s
  position_kept s h =
      let t = order.placed s h in
      let l = listed-length order in
      let k : ℕ = get_or order.positions s 0 in
      let lt : k < length (listed order) = omega (arith, t.0) in
      sym (ap (position_of (listed order)) (sym (get_or-take order.size order.stations k 0 t.0 ∙ t.1)) ∙ position_of_station (listed order) k (order-of order).once lt)

  pub position_there : (s : ℕ) → s < order.size → get_or (listed order) (get_or order.positions s 0) 0 ≡ s
  position_there s h = let t = order.placed s h in get_or-take order.size order.stations _ 0 t.0 ∙ t.1

  pub position_small : (s : ℕ) → s < order.size → get_or order.positions s 0 < order.size
  position_small s h = (order.placed s h).0
