-- Which stations a search from a reaches over couplings, through stations that pass a test.
use Rattle.std.proofs.Common.{◌≡◌, ℕ, suc, ◌<◌, min, Bool, true, false, cond, ◌&&◌, ◌||◌, eqb, ltb, ◌≢◌, ◌⊎◌, List, [], ◌∷◌, ◌++◌, sym, refl, ap, ◌∙◌, subst, inl, inr, ⊎_elim, arith}
use Rattle.std.proofs.lemmas.Bool.{and_parts, and_from, both_ways, cases_Bool, eqb-true, eqb-false, lt-ltb, le-ltb}
use Rattle.std.proofs.lemmas.Bool.Decides.{nat_tests}
use Rattle.elimination.specs.Elimination.{Joined, path}
use Rattle.elimination.specs.Graphs.{Graph}
use Rattle.elimination.specs.Orders.{In, Distinct, member, later, earlier, position_of}
use Rattle.elimination.specs.View.{listed}
use Rattle.elimination.specs.declared.order.EliminationOrder.{EliminationOrder}
use Rattle.elimination.proofs.Listing.{order-of}
use Rattle.elimination.proofs.Members.{in-member, member-in}
use Rattle.elimination.proofs.Relations.{in_parts}

-- ---- earlier stations, by positions

later-in : (xs : List ℕ) (m a : ℕ) → member a (later xs m) ≡ true → member a xs ≡ true
later-in [] m a h = h
later-in (x ∷ xs) m a h = step (eqb x m) h (later-in xs m a)
  where
    step : (e : Bool) → member a (cond e xs (later xs m)) ≡ true → (member a (later xs m) ≡ true → member a xs ≡ true) → (eqb a x || member a xs) ≡ true
    step true h ih = grind arith
    step false h ih = let i = ih h in grind arith

-- a member of an order comes after m exactly if its position does
pub earlier-position : (xs : List ℕ) (m a : ℕ) → Distinct xs → In a xs → earlier xs m a ≡ ltb (position_of xs m) (position_of xs a)
earlier-position [] m a d i = absurd i
earlier-position (x ∷ xs) m a d i = step (eqb x m) (eqb x a) refl refl (earlier-position xs m a d.1)
  where
    gone : eqb x a ≡ true → member a xs ≡ false
    gone t = ⊎_elim (λ (h : member a xs ≡ true). absurd (d.0 (subst (λ (y : ℕ). In y xs) (sym (eqb-true x a t)) (in-member a xs h)))) (λ (h : member a xs ≡ false). h) (cases_Bool (member a xs))

    rest : In a (x ∷ xs) → eqb x a ≡ false → In a xs
    rest (inl q) t = absurd (eqb-false x a t (sym q))
    rest (inr j) t = j

    step : (e f : Bool) → eqb x m ≡ e → eqb x a ≡ f → (In a xs → earlier xs m a ≡ ltb (position_of xs m) (position_of xs a))
        → member a (cond e xs (later xs m)) ≡ ltb (cond e 0 (suc (position_of xs m))) (cond f 0 (suc (position_of xs a)))
    step true true s t ih = gone t
    step true false s t ih = member-in a xs (rest i t) ∙ sym (lt-ltb 0 (suc (position_of xs a)) (omega arith))
    step false true s t ih =
        ⊎_elim (λ (h : member a (later xs m) ≡ true). absurd (both_ways (member a xs) (gone t) (later-in xs m a h)))
        (λ (h : member a (later xs m) ≡ false). h ∙ sym (le-ltb (suc (position_of xs m)) 0 (omega arith)))
        (cases_Bool (member a (later xs m)))
    step false false s t ih = let e = ih (rest i t) in grind (arith, nat_tests)

-- ---- paths through stations that pass

module _ (G : Graph) (p : ℕ → Bool) where
  -- a path from a to m, whose inner stations pass
  abbrev pub PathTo : ℕ → ℕ → Type 0
  PathTo a m = (ms : List ℕ) × (path G a ms m ≡ true) × ((x : ℕ) → In x ms → p x ≡ true)

  -- m is a, or passes and has a path from a
  abbrev pub Reached : ℕ → ℕ → Type 0
  Reached a m = (m ≡ a) ⊎ ((p m ≡ true) × PathTo a m)

  path-more : (a : ℕ) (ms : List ℕ) (m k : ℕ) → path G a ms m ≡ true → G m k ≡ true → path G a (ms ++ (m ∷ [])) k ≡ true
  path-more a [] m k h g = and_from (G a m) (G m k) h g
  path-more a (x ∷ ms) m k h g =
      let t = and_parts (G a x) (path G x ms m) h in
      and_from (G a x) (path G x (ms ++ (m ∷ [])) k) t.0 (path-more x ms m k t.1 g)

  -- a neighbour of a station that is reached has a path
  pub reached-more : (a m k : ℕ) → Reached a m → G m k ≡ true → PathTo a k
  reached-more a m k (inl e) g = ([], ap (λ (y : ℕ). G y k) (sym e) ∙ g, λ x i. absurd i)
  reached-more a m k (inr r) g =
      let ms = r.1.0 in
      (ms ++ (m ∷ []), path-more a ms m k r.1.1 g, λ x i. ⊎_elim (r.1.2 x) (λ (j : In x (m ∷ [])). ⊎_elim (λ (e : x ≡ m). ap p e ∙ r.0) (λ (z : ⊥). absurd z) j) (in_parts x ms (m ∷ []) i))

  -- no path leads to b out of stations none of which is a neighbour of b, and which hold each of their neighbours that passes
  pub never-reached : (S : ℕ → Type 0) (b : ℕ) → ((m k : ℕ) → S m → G m k ≡ true → (k ≢ b) × (p k ≡ true → S k)) → (a : ℕ) → S a → PathTo a b → ⊥
  never-reached S b f a h ([], e, q) = (f a b h e).0 refl
  never-reached S b f a h (m ∷ ms, e, q) =
      let t = and_parts (G a m) (path G m ms b) e in
      never-reached S b f m ((f a m h t.0).1 (q m (inl refl))) (ms, t.1, λ x i. q x (inr i))

-- ---- paths through stations before both ends

-- k comes before a position in the order
abbrev pub before : List ℕ → ℕ → ℕ → Bool
before xs position k = ltb (position_of xs k) position

-- pa and pb are the positions of a and b, and position is the first of them
module _ (G : Graph) (order : EliminationOrder) (a b pa pb position : ℕ) (ha : a < order.size) (hb : b < order.size)
    (ea : pa ≡ position_of (listed order) a) (eb : pb ≡ position_of (listed order) b) (first : position ≡ min pa pb) where
  earlier-than : (m c pc : ℕ) → c < order.size → pc ≡ position_of (listed order) c → earlier (listed order) m c ≡ before (listed order) pc m
  earlier-than m c pc h e = let o = order-of order in earlier-position (listed order) m c o.once (o.all c h) ∙ ap (λ (q : ℕ). before (listed order) q m) (sym e)

  inner-test : (m : ℕ) → (earlier (listed order) m a && earlier (listed order) m b) ≡ before (listed order) position m
  inner-test m = let x = earlier-than m a pa ha ea in let y = earlier-than m b pb hb eb in grind (arith, nat_tests)

  pub path-joined : PathTo G (before (listed order) position) a b → Joined G (listed order) a b
  path-joined t = (t.0, t.1, λ m i. and_parts (earlier (listed order) m a) (earlier (listed order) m b) (inner-test m ∙ t.2 m i))

  pub joined-path : Joined G (listed order) a b → PathTo G (before (listed order) position) a b
  joined-path t = (t.0, t.1, λ m i. sym (inner-test m) ∙ and_from (earlier (listed order) m a) (earlier (listed order) m b) (t.2 m i).0 (t.2 m i).1)
