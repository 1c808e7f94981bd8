-- Taking a simplicial station again and again.
use Rattle.std.proofs.Common.{◌≡◌, ℕ, ◌+◌, ◌<◌, ◌≤◌, Bool, true, false, eqb, ◌≢◌, List, [], ◌∷◌, ◌++◌, length, get_or, set, Some, filter, sym, refl, ap, ◌∙◌, subst, inl, inr, ⊎_elim, append_assoc, arith, length-set, get_or-set_other, get_or-set_same}
use Rattle.std.proofs.lemmas.Bool.Decides.{nat_tests}
use Rattle.std.proofs.lemmas.Bool.{both_ways, and_parts, cases_eq, eqb-true, eqb-false, ne_eqb}
use Rattle.elimination.specs.Dropping.{marked}
use Rattle.elimination.specs.Graphs.{Graph, Simple, apart}
use Rattle.elimination.specs.Orders.{In, Distinct, Order, last_of}
use Rattle.elimination.specs.Theorems.{Perfect}
use Rattle.elimination.proofs.EndVertex.{End, Fails, end-vertex}
use Rattle.elimination.proofs.Listing.{kept-one, order-length}
use Rattle.elimination.proofs.Members.{but, but-other, but-apart, in_kept, kept_in, distinct-kept, closed-kept}
use Rattle.elimination.proofs.Relations.{Simplicial, Closed, SpareIn, closed-from, in_parts, in_left, in_right}

-- ---- a list in two parts

distinct-right : (xs ys : List ℕ) → Distinct (xs ++ ys) → Distinct ys
distinct-right [] ys d = d
distinct-right (x ∷ xs) ys d = distinct-right xs ys d.1

distinct-both : (a : ℕ) (xs ys : List ℕ) → Distinct (xs ++ ys) → In a xs → In a ys → ⊥
distinct-both a [] ys d i j = i
distinct-both a (x ∷ xs) ys d (inl q) j = d.0 (in_right x xs ys (rw q at j))
distinct-both a (x ∷ xs) ys d (inr m) j = distinct-both a xs ys d.1 m j

-- the second part is given another order
distinct-other : (xs ys zs : List ℕ) → Distinct (xs ++ ys) → Distinct zs → ((a : ℕ) → In a zs → In a ys) → Distinct (xs ++ zs)
distinct-other [] ys zs d e f = e
distinct-other (x ∷ xs) ys zs d e f = (
  λ i. d.0 (⊎_elim (λ (m : In x xs). in_left x xs ys m) (λ (m : In x zs). in_right x xs ys (f x m)) (in_parts x xs zs i)),
  distinct-other xs ys zs d.1 e f,
)

order_other : (n : ℕ) (xs ys zs : List ℕ) → Order n (xs ++ ys) → Distinct zs → ((a : ℕ) → In a ys → In a zs) → ((a : ℕ) → In a zs → In a ys) → Order n (xs ++ zs)
order_other n xs ys zs o e t f =
    record {
      once = distinct-other xs ys zs o.once e f;
      all = λ a h. ⊎_elim (λ (m : In a xs). in_left a xs zs m) (λ (m : In a ys). in_right a xs zs (t a m)) (in_parts a xs ys (o.all a h));
      only = λ a i. o.only a (⊎_elim (λ (m : In a xs). in_left a xs ys m) (λ (m : In a zs). in_right a xs ys (f a m)) (in_parts a xs zs i));
    }

-- of two different members one is not s
other-member : (s : ℕ) (xs : List ℕ) → Distinct xs → 2 ≤ length xs → Fails (λ a. eqb a s) xs
other-member s [] d h = absurd (let no : ⊥ = omega arith in no)
other-member s (x ∷ []) d h = absurd (let no : ⊥ = omega arith in no)
other-member s (x ∷ y ∷ zs) d h =
    ⊎_elim
    (λ (e : x ≡ s). (y, inr (inl refl), ne_eqb y s (λ q. d.0 (inl (e ∙ sym q)))))
    (λ (m : x ≡ s → ⊥). (x, inl refl, ne_eqb x s m))
    (cases_eq x s)

alone : (s : ℕ) (xs : List ℕ) → length xs ≡ 1 → In s xs → xs ≡ s ∷ []
alone s [] h i = absurd i
alone s (x ∷ []) h (inl q) = ap (λ (a : ℕ). a ∷ []) (sym q)
alone s (x ∷ []) h (inr m) = absurd m
alone s (x ∷ y ∷ zs) h i = absurd (let no : ⊥ = omega arith in no)

last_snoc : (ys : List ℕ) (s : ℕ) → last_of (ys ++ (s ∷ [])) ≡ Some s
last_snoc [] s = refl
last_snoc (y ∷ []) s = refl
last_snoc (x ∷ y ∷ ys) s = last_snoc (y ∷ ys) s

-- ---- a graph without the pairs of a station

apart-simple : (n : ℕ) (G : Graph) (v : ℕ) → Simple n G → Simple n (apart G v)
apart-simple n G v s =
    record {
      symmetric = λ a b. even a b (s.symmetric a b);
      irreflexive = λ a. loose a (s.irreflexive a);
      below = λ a b h. s.below a b (and_parts (G a b) _ h).0;
    }
  where
    even : (a b : ℕ) → G a b ≡ G b a → apart G v a b ≡ apart G v b a
    even a b e = grind (arith, nat_tests)

    loose : (a : ℕ) → G a a ≡ false → apart G v a a ≡ false
    loose a e = grind (arith, nat_tests)

apart_some : (G : Graph) (v a b : ℕ) → G a b ≡ true → a ≢ v → b ≢ v → apart G v a b ≡ true
apart_some G v a b h p q = grind (arith, nat_tests)

apart_parts : (G : Graph) (v a b : ℕ) → apart G v a b ≡ true → (G a b ≡ true) × (a ≢ v) × (b ≢ v)
apart_parts G v a b h = grind (arith, nat_tests)

-- ---- the loop

-- ys is written, and rest is an order of what is left, of which G has the pairs of H
pub record Peel (n s k : ℕ) (H G : Graph) (left : List Bool) (ys rest : List ℕ) : Type 0 where
  pub many : length rest + k ≡ n
  pub order : Order n (ys ++ rest)
  pub closed : Closed H rest
  pub root : In s rest
  pub front : (zs : List ℕ) → Order n (ys ++ zs) → Closed H zs → Closed H (ys ++ zs)
  pub back : (a b : ℕ) → G a b ≡ true → (H a b ≡ true) × In a rest × In b rest
  pub forth : (a b : ℕ) → H a b ≡ true → In a rest → In b rest → G a b ≡ true
  pub here : (a : ℕ) → In a rest → a ≢ s → marked left a ≡ true
  pub gone : (a : ℕ) → a < n → marked left a ≡ true → In a rest × (a ≢ s)
  pub simple : Simple n G
  pub size : length left ≡ 512

pub peel-start : (n s : ℕ) (H : Graph) (left left' : List Bool) → n ≤ 512 → s < n → Simple n H → (p : Perfect n H) → ((a : ℕ) → a < 512 → marked left a ≡ true) → length left ≡ 512 → left' ≡ set left s false → Peel n s 0 H H left' [] p.0
peel-start n s H left left' few root sim p all long e =
    let o : Order n p.0 = p.1 in
    record {
      many = (let l = order-length n p.0 o in omega arith);
      order = o;
      closed = closed-from H p.0 p.2;
      root = o.all s root;
      front = λ zs _ c. c;
      back = λ a b h. (h, o.all a (sim.below a b h).0, o.all b (sim.below a b h).1);
      forth = λ a b h _ _. h;
      here = λ a i ne. (let la : a < 512 = (let k : a < n = o.only a i in omega arith) in ap (λ (l : List Bool). get_or l a false) e ∙ get_or-set_other left s a false false ne ∙ all a la);
      gone = λ a h l. (
        o.all a h,
        λ q. (let ls : s < length left = omega arith in
            both_ways (get_or left' a false) (ap (λ (i : ℕ). get_or left' i false) q ∙ ap (λ (l : List Bool). get_or l s false) e ∙ get_or-set_same left s false false ls) l),
      );
      simple = sim;
      size = ap length e ∙ length-set left s false ∙ long;
    }

module _ (n s k : ℕ) (H G : Graph) (left : List Bool) (ys rest : List ℕ) (sim : Simple n H) (p : Peel n s k H G left ys rest) where
  -- a station that can be taken
  pub peel-some : k + 1 < n → (v : ℕ) × (v < n) × (marked left v ≡ true) × SpareIn G v v
  peel-some h = (e.0, p.order.only e.0 (in_right e.0 ys rest e.1), p.here e.0 e.1 (eqb-false e.0 s e.2), free)
    where
      alike : (a b : ℕ) → In a rest → In b rest → a ≢ b → eqb a s ≡ true → eqb b s ≡ true → H a b ≡ true
      alike a b _ _ ne q r = absurd (ne (eqb-true a s q ∙ sym (eqb-true b s r)))

      e : End H (λ a. eqb a s) rest
      e = let m = p.many in end-vertex H sim.symmetric sim.irreflexive rest p.closed (λ a. eqb a s) alike (other-member s rest (distinct-right ys rest p.order.once) (omega arith))

      free : SpareIn G e.0 e.0
      free a ga _ b ne gb _ =
          let x = p.back e.0 a ga in
          let y = p.back e.0 b gb in
          p.forth a b (e.3 a b x.2 y.2 ne x.0 y.0) x.2 y.2

  pub peel-step : (y : ℕ) (G' : Graph) (left' : List Bool) (ys' : List ℕ) → y < n → n ≤ 512 → marked left y ≡ true → SpareIn G y y
      → G' ≡ apart G y → left' ≡ set left y false → ys' ≡ ys ++ (y ∷ []) → (rest' : List ℕ) × Peel n s (k + 1) H G' left' ys' rest'
  peel-step y G' left' ys' hy few ly free eg el ey = (
    less,
    record {
      many = (let m = p.many in let one = kept-one y rest (distinct-right ys rest p.order.once) iy in omega arith);
      order = subst (λ (l : List ℕ). Order n l) (sym (split less)) (order_other n ys rest (y ∷ less) p.order ((λ i. (kept y i).1 refl), distinct-kept (but y) rest (distinct-right ys rest p.order.once)) into out);
      closed = closed-kept (but y) H rest p.closed;
      root = keep s p.root (λ q. here.1 (sym q));
      front = λ zs o c. subst (λ (l : List ℕ). Closed H l) (sym (split zs)) (p.front (y ∷ zs) (subst (λ (l : List ℕ). Order n l) (split zs) o) (first zs (subst (λ (l : List ℕ). Order n l) (split zs) o), c));
      back = λ a b h. back a b (ap (λ (K : Graph). K a b) (sym eg) ∙ h);
      forth = λ a b h ia ib. ap (λ (K : Graph). K a b) eg ∙ apart_some G y a b (p.forth a b h (kept a ia).0 (kept b ib).0) (kept a ia).1 (kept b ib).1;
      here = λ a i ne. ap (λ (l : List Bool). get_or l a false) el ∙ get_or-set_other left y a false false (kept a i).1 ∙ p.here a (kept a i).0 ne;
      gone = λ a h l. gone a h (ap (λ (l : List Bool). get_or l a false) (sym el) ∙ l);
      simple = subst (λ (K : Graph). Simple n K) (sym eg) (apart-simple n G y p.simple);
      size = ap length el ∙ length-set left y false ∙ p.size;
    },
  )
    where
      less : List ℕ
      less = filter (but y) rest

      here : In y rest × (y ≢ s)
      here = p.gone y hy ly

      iy : In y rest
      iy = here.0

      split : (zs : List ℕ) → ys' ++ zs ≡ ys ++ (y ∷ zs)
      split zs = ap (λ (l : List ℕ). l ++ zs) ey ∙ append_assoc ys (y ∷ []) zs

      kept : (a : ℕ) → In a less → In a rest × (a ≢ y)
      kept a i = let t = kept_in (but y) a rest i in (t.0, but-apart y a t.1)

      keep : (a : ℕ) → In a rest → a ≢ y → In a less
      keep a i m = in_kept (but y) a rest i (but-other y a m)

      into : (a : ℕ) → In a rest → In a (y ∷ less)
      into a i = ⊎_elim (λ (q : a ≡ y). inl q) (λ (m : a ≡ y → ⊥). inr (keep a i m)) (cases_eq a y)

      out : (a : ℕ) → In a (y ∷ less) → In a rest
      out a (inl q) = rw q iy
      out a (inr m) = (kept a m).0

      first : (zs : List ℕ) → Order n (ys ++ (y ∷ zs)) → Simplicial H y zs
      first zs o a b ia ib ne ha hb =
          let ra = still a ia in
          let rb = still b ib in
          (p.back a b (free a (p.forth y a ha iy ra) (p.forth y a ha iy ra) b ne (p.forth y b hb iy rb) (p.forth y b hb iy rb))).0
        where
          still : (a : ℕ) → In a zs → In a rest
          still a i = ⊎_elim (λ (m : In a ys). absurd (distinct-both a ys (y ∷ zs) o.once m (inr i))) (λ (m : In a rest). m) (in_parts a ys rest (p.order.all a (o.only a (in_right a ys (y ∷ zs) (inr i)))))

      back : (a b : ℕ) → apart G y a b ≡ true → (H a b ≡ true) × In a less × In b less
      back a b h = let t = apart_parts G y a b h in let q = p.back a b t.0 in (q.0, keep a q.1 t.1, keep b q.2 t.2)

      gone : (a : ℕ) → a < n → get_or (set left y false) a false ≡ true → In a less × (a ≢ s)
      gone a h l =
          ⊎_elim
          (λ (q : a ≡ y). absurd (let lt : y < length left = omega (arith, p.size) in both_ways (get_or (set left y false) a false) (ap (λ (i : ℕ). get_or (set left y false) i false) q ∙ get_or-set_same left y false false lt) l))
          (λ (m : a ≡ y → ⊥). let t = p.gone a h (sym (get_or-set_other left y a false false m) ∙ l) in (keep a t.0 m, t.1))
          (cases_eq a y)

  pub peel-end : (xs : List ℕ) → k + 1 ≡ n → xs ≡ ys ++ (s ∷ []) → Order n xs × Closed H xs × (last_of xs ≡ Some s)
  peel-end xs h e =
      let m = p.many in
      let r : rest ≡ s ∷ [] = alone s rest (omega arith) p.root in
      let o : Order n (ys ++ (s ∷ [])) = subst (λ (l : List ℕ). Order n (ys ++ l)) r p.order in
      let P : List ℕ → Type 0 = λ l. Order n l × Closed H l × (last_of l ≡ Some s) in
      subst P (sym e) (o, p.front (s ∷ []) o ((λ a b i. absurd i), tt), last_snoc ys s)
