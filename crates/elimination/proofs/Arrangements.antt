-- The list of all orders, and the test of minimal orders over it.
use Rattle.std.proofs.Common.{◌≡◌, ℕ, zero, suc, ◌<◌, Bool, true, false, not, ◌||◌, ◌⊎◌, List, [], ◌∷◌, ◌++◌, map, filter, sym, refl, ap, ◌∙◌, subst, inl, inr, ⊎_elim, arith}
use Rattle.std.proofs.lemmas.Bool.{both_ways, cases_Bool, cases_eq, and_parts, and_from, or_left, or_right, or_cases, not-true, not_from_false}
use Rattle.std.specs.List.{list_all}
use Rattle.elimination.specs.AllOrders.{Listed, inserts, inserts_each, minimal, orders, within}
use Rattle.elimination.specs.Elimination.{Minimal, fill}
use Rattle.elimination.specs.Graphs.{Graph, Simple, Sub}
use Rattle.elimination.specs.Orders.{In, Distinct, Order, up_to}
use Rattle.elimination.specs.Theorems.{MinimalByTest, OrdersAreListed}
use Rattle.elimination.proofs.Listing.{kept_same, order-without}
use Rattle.elimination.proofs.Members.{but, but-self, but-other}
use Rattle.elimination.proofs.Relations.{every_in, in-every, in-up_to}
use Rattle.elimination.proofs.Statements.{fill-parts, filled-simple}

-- ---- lists of lists

listed-left : (xs : List ℕ) (ks ls : List (List ℕ)) → Listed xs ks → Listed xs (ks ++ ls)
listed-left xs [] ls i = absurd i
listed-left xs (a ∷ ks) ls (inl q) = inl q
listed-left xs (a ∷ ks) ls (inr m) = inr (listed-left xs ks ls m)

listed-right : (xs : List ℕ) (ks ls : List (List ℕ)) → Listed xs ls → Listed xs (ks ++ ls)
listed-right xs [] ls i = i
listed-right xs (a ∷ ks) ls i = inr (listed-right xs ks ls i)

listed-parts : (xs : List ℕ) (ks ls : List (List ℕ)) → Listed xs (ks ++ ls) → Listed xs ks ⊎ Listed xs ls
listed-parts xs [] ls i = inr i
listed-parts xs (a ∷ ks) ls (inl q) = inl (inl q)
listed-parts xs (a ∷ ks) ls (inr m) = ⊎_elim (λ (k : Listed xs ks). inl (inr k)) (λ (k : Listed xs ls). inr k) (listed-parts xs ks ls m)

listed-map : (y : ℕ) (xs : List ℕ) (ks : List (List ℕ)) → Listed xs ks → Listed (y ∷ xs) (map (λ zs. y ∷ zs) ks)
listed-map y xs [] i = absurd i
listed-map y xs (a ∷ ks) (inl q) = inl (ap (λ (zs : List ℕ). y ∷ zs) q)
listed-map y xs (a ∷ ks) (inr m) = inr (listed-map y xs ks m)

map-listed : (y : ℕ) (xs : List ℕ) (ks : List (List ℕ)) → Listed xs (map (λ zs. y ∷ zs) ks) → (zs : List ℕ) × (xs ≡ y ∷ zs) × Listed zs ks
map-listed y xs [] i = absurd i
map-listed y xs (a ∷ ks) (inl q) = (a, q, inl refl)
map-listed y xs (a ∷ ks) (inr m) = let t = map-listed y xs ks m in (t.0, t.1, inr t.2)

each-listed : (x : ℕ) (xs ys : List ℕ) (yss : List (List ℕ)) → Listed ys yss → Listed xs (inserts x ys) → Listed xs (inserts_each x yss)
each-listed x xs ys [] i j = absurd i
each-listed x xs ys (zs ∷ yss) (inl q) j = listed-left xs (inserts x zs) (inserts_each x yss) (subst (λ (l : List ℕ). Listed xs (inserts x l)) q j)
each-listed x xs ys (zs ∷ yss) (inr m) j = listed-right xs (inserts x zs) (inserts_each x yss) (each-listed x xs ys yss m j)

listed-each : (x : ℕ) (xs : List ℕ) (yss : List (List ℕ)) → Listed xs (inserts_each x yss) → (ys : List ℕ) × Listed ys yss × Listed xs (inserts x ys)
listed-each x xs [] i = absurd i
listed-each x xs (zs ∷ yss) i =
    ⊎_elim (λ (k : Listed xs (inserts x zs)). (zs, inl refl, k)) (λ (k : Listed xs (inserts_each x yss)). let t = listed-each x xs yss k in (t.0, inr t.1, t.2))
    (listed-parts xs (inserts x zs) (inserts_each x yss) i)

-- ---- one station put in

first-place : (x : ℕ) (ys : List ℕ) → Listed (x ∷ ys) (inserts x ys)
first-place x [] = inl refl
first-place x (y ∷ ys) = inl refl

-- a list is its rest with one member put in again
put-again : (x : ℕ) (xs : List ℕ) → Distinct xs → In x xs → Listed xs (inserts x (filter (but x) xs))
put-again x [] d i = absurd i
put-again x (y ∷ ys) d i = ⊎_elim here (there (put-again x ys d.1)) (cases_eq x y)
  where
    here : x ≡ y → Listed (y ∷ ys) (inserts x (filter (but x) (y ∷ ys)))
    here q =
        let e : but x y ≡ false = ap (but x) (sym q) ∙ but-self x in
        let k : filter (but x) ys ≡ ys = kept_same x ys (λ m. d.0 (rw q at m)) in
        simp e (subst (λ (l : List ℕ). Listed (y ∷ ys) (inserts x l)) (sym k) (subst (λ (z : ℕ). Listed (z ∷ ys) (inserts x ys)) q (first-place x ys)))

    there : (In x ys → Listed ys (inserts x (filter (but x) ys))) → (x ≡ y → ⊥) → Listed (y ∷ ys) (inserts x (filter (but x) (y ∷ ys)))
    there ih ne =
        let e : but x y ≡ true = but-other x y (λ q. ne (sym q)) in
        simp e (inr (listed-map y ys (inserts x (filter (but x) ys)) (ih (⊎_elim (λ (q : x ≡ y). absurd (ne q)) (λ (m : In x ys). m) i))))

-- xs is ys with x put in
record Put (x : ℕ) (ys xs : List ℕ) : Type 0 where
  pub into : (a : ℕ) → In a xs → (a ≡ x) ⊎ In a ys
  pub from : (a : ℕ) → (a ≡ x) ⊎ In a ys → In a xs
  pub once : Distinct ys → (In x ys → ⊥) → Distinct xs

put_in : (x : ℕ) (ys xs : List ℕ) → Listed xs (inserts x ys) → Put x ys xs
put_in x [] xs (inl q) = subst (λ (l : List ℕ). Put x [] l) (sym q) (record { into = λ a i. i; from = λ a i. i; once = λ d f. ((λ i. i), tt) })
put_in x [] xs (inr m) = absurd m
put_in x (y ∷ ys) xs (inl q) = subst (λ (l : List ℕ). Put x (y ∷ ys) l) (sym q) (record { into = λ a i. i; from = λ a i. i; once = λ d f. (f, d) })
put_in x (y ∷ ys) xs (inr m) =
    let t = map-listed y xs (inserts x ys) m in
    subst (λ (l : List ℕ). Put x (y ∷ ys) l) (sym t.1) (later t.0 (put_in x ys t.0 t.2))
  where
    later : (zs : List ℕ) → Put x ys zs → Put x (y ∷ ys) (y ∷ zs)
    later zs p =
        record {
          into = λ a i. ⊎_elim (λ (q : a ≡ y). inr (inl q)) (λ (j : In a zs). ⊎_elim (λ (q : a ≡ x). inl q) (λ (k : In a ys). inr (inr k)) (p.into a j)) i;
          from = λ a i. ⊎_elim (λ (q : a ≡ x). inr (p.from a (inl q))) (λ (j : In a (y ∷ ys)). ⊎_elim (λ (q : a ≡ y). inl q) (λ (k : In a ys). inr (p.from a (inr k))) j) i;
          once = λ d f. ((λ i. ⊎_elim (λ (q : y ≡ x). f (inl (sym q))) d.0 (p.into y i)), p.once d.1 (λ i. f (inr i)));
        }

put_order : (n : ℕ) (ys xs : List ℕ) → Order n ys → Put n ys xs → Order (suc n) xs
put_order n ys xs o p =
    record {
      once = p.once o.once (λ i. let l : n < n = o.only n i in let no : ⊥ = omega arith in no);
      all = λ a h. ⊎_elim (λ (q : a ≡ n). p.from a (inl q)) (λ (ne : a ≡ n → ⊥). p.from a (inr (o.all a (omega arith)))) (cases_eq a n);
      only = λ a i. ⊎_elim (λ (q : a ≡ n). let r : a < suc n = omega arith in r) (λ (j : In a ys). let l : a < n = o.only a j in let r : a < suc n = omega arith in r) (p.into a i);
    }

-- ---- all orders

order-listed : (n : ℕ) (xs : List ℕ) → Order n xs → Listed xs (orders n)
order-listed zero [] o = inl refl
order-listed zero (x ∷ xs) o = absurd (let f : x < 0 = o.only x (inl refl) in let no : ⊥ = omega arith in no)
order-listed (suc n) xs o = each-listed n xs (filter (but n) xs) (orders n) (order-listed n (filter (but n) xs) (order-without n xs o)) (put-again n xs o.once (o.all n (omega arith)))

listed-order : (n : ℕ) (xs : List ℕ) → Listed xs (orders n) → Order n xs
listed-order zero xs (inl q) = subst (λ (l : List ℕ). Order 0 l) (sym q) (record { once = tt; all = λ a h. absurd (let no : ⊥ = omega arith in no); only = λ a i. absurd i })
listed-order zero xs (inr m) = absurd m
listed-order (suc n) xs i = let t = listed-each n xs (orders n) i in put_order n t.0 xs (listed-order n t.0 t.1) (put_in n t.0 xs t.2)

pub orders-are-listed : OrdersAreListed
orders-are-listed n xs = (order-listed n xs, listed-order n xs)

-- ---- the test of minimal orders

every-listed : (p : List ℕ → Bool) (xss : List (List ℕ)) → list_all p xss ≡ true → (xs : List ℕ) → Listed xs xss → p xs ≡ true
every-listed p [] e xs i = absurd i
every-listed p (ys ∷ yss) e xs (inl q) = ap p q ∙ (and_parts (p ys) (list_all p yss) e).0
every-listed p (ys ∷ yss) e xs (inr m) = every-listed p yss (and_parts (p ys) (list_all p yss) e).1 xs m

listed-every : (p : List ℕ → Bool) (xss : List (List ℕ)) → ((xs : List ℕ) → Listed xs xss → p xs ≡ true) → list_all p xss ≡ true
listed-every p [] f = refl
listed-every p (ys ∷ yss) f = and_from (p ys) (list_all p yss) (f ys (inl refl)) (listed-every p yss (λ xs i. f xs (inr i)))

module _ (n : ℕ) (F G : Graph) where
  within-to : Sub F G → within n F G ≡ true
  within-to s = in-every (λ a. list_all (λ b. not (F a b) || G a b) (up_to n)) (up_to n) (λ a _. in-every (λ b. not (F a b) || G a b) (up_to n) (λ b _. here a b (F a b) refl))
    where
      here : (a b : ℕ) (f : Bool) → F a b ≡ f → (not f || G a b) ≡ true
      here a b true e = s a b e
      here a b false e = refl

  within-from : ((a b : ℕ) → F a b ≡ true → (a < n) × (b < n)) → within n F G ≡ true → Sub F G
  within-from below e a b h =
      let l = below a b h in
      ⊎_elim (λ (t : not (F a b) ≡ true). absurd (both_ways (F a b) (not-true (F a b) t) h)) (λ (t : G a b ≡ true). t)
      (or_cases (not (F a b)) (G a b) (every_in (λ b. not (F a b) || G a b) (up_to n) (every_in (λ a. list_all (λ b. not (F a b) || G a b) (up_to n)) (up_to n) e a (in-up_to n a l.0)) b (in-up_to n b l.1)))

fill-below : (n : ℕ) (C : Graph) → Simple n C → (xs : List ℕ) → Order n xs → (a b : ℕ) → fill C xs a b ≡ true → (a < n) × (b < n)
fill-below n C s xs o a b h = (filled-simple n C s xs o).below a b (fill-parts C xs a b h).0

pub minimal-by-test : MinimalByTest
minimal-by-test n C xs s o = (from, to)
  where
    test : List ℕ → Bool
    test ys = not (within n (fill C ys) (fill C xs)) || within n (fill C xs) (fill C ys)

    from : minimal n C xs ≡ true → Minimal n C xs
    from e ys oy p =
        ⊎_elim
        (λ (t : not (within n (fill C ys) (fill C xs)) ≡ true). both_ways (within n (fill C ys) (fill C xs)) (not-true _ t) (within-to n (fill C ys) (fill C xs) p.0))
        (λ (t : within n (fill C xs) (fill C ys) ≡ true). both_ways (fill C ys p.1.0 p.1.1) p.1.3 (within-from n (fill C xs) (fill C ys) (fill-below n C s xs o) t p.1.0 p.1.1 p.1.2))
        (or_cases (not (within n (fill C ys) (fill C xs))) (within n (fill C xs) (fill C ys)) (every-listed test (orders n) e ys (order-listed n ys oy)))

    whole : Minimal n C xs → (ys : List ℕ) → Order n ys → Sub (fill C ys) (fill C xs) → Sub (fill C xs) (fill C ys)
    whole m ys oy w a b h = ⊎_elim (λ (t : fill C ys a b ≡ true). t) (λ (t : fill C ys a b ≡ false). absurd (m ys oy (w, (a, b, h, t)))) (cases_Bool (fill C ys a b))

    to : Minimal n C xs → minimal n C xs ≡ true
    to m = listed-every test (orders n) (λ ys i. let oy = listed-order n ys i in
        ⊎_elim
        (λ (t : within n (fill C ys) (fill C xs) ≡ true). or_right (not (within n (fill C ys) (fill C xs))) (within n (fill C xs) (fill C ys)) (within-to n (fill C xs) (fill C ys) (whole m ys oy (within-from n (fill C ys) (fill C xs) (fill-below n C s ys oy) t))))
        (λ (t : within n (fill C ys) (fill C xs) ≡ false). or_left (not (within n (fill C ys) (fill C xs))) (within n (fill C xs) (fill C ys)) (not_from_false _ t))
        (cases_Bool (within n (fill C ys) (fill C xs))))
