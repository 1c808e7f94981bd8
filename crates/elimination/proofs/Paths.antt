-- A pair is filled exactly if a path joins it whose inner stations come before both ends.
use Rattle.std.proofs.Common.{◌≡◌, ℕ, Bool, true, false, cond, eqb, ◌≢◌, ◌⊎◌, List, [], ◌∷◌, sym, refl, ap, ◌∙◌, subst, inl, inr, ⊎_elim}
use Rattle.std.proofs.lemmas.Bool.{both_ways, cases_eq, or_cases, or_left, or_right, and_parts, and_from, eqb-true, eqb-false, false≢true}
use Rattle.elimination.specs.Elimination as spec
use Rattle.elimination.specs.Elimination.{path}
use Rattle.elimination.specs.Orders.{member, later, earlier}
use Rattle.elimination.proofs.Members.{in-member, member-in}
use Rattle.elimination.proofs.Relations.{Symmetric, Irreflexive, Within}
use Rattle.elimination.specs.Elimination.{after, filled}
use Rattle.elimination.specs.Graphs.{Graph}
use Rattle.elimination.specs.Orders.{In, Distinct}
use Rattle.elimination.proofs.Least.{after-old, after-new, after-cases, after-symmetric, after-irreflexive, not-head, within-after, within-filled}

-- m comes before a in the list
abbrev pub Before : List ℕ → ℕ → ℕ → Type 0
Before [] m a = ⊥
Before (y ∷ ys) m a = ((m ≡ y) × In a ys) ⊎ Before ys m a

-- from a over the members of the list in turn to b
abbrev Path : Graph → ℕ → List ℕ → ℕ → Type 0
Path G a [] b = G a b ≡ true
Path G a (m ∷ ms) b = (G a m ≡ true) × Path G m ms b

abbrev Joined : Graph → List ℕ → ℕ → ℕ → Type 0
Joined G xs a b = (ms : List ℕ) × Path G a ms b × ((m : ℕ) → In m ms → Before xs m a × Before xs m b)

before-in : (xs : List ℕ) (m a : ℕ) → Before xs m a → In a xs
before-in [] m a b = b
before-in (y ∷ ys) m a (inl t) = inr t.1
before-in (y ∷ ys) m a (inr b) = inr (before-in ys m a b)

-- ---- a path after v has left, as a path before

module _ (C : Graph) (sy : Symmetric C) (v : ℕ) where
  -- one more step at the front
  over : (a m b : ℕ) → after C v a m ≡ true → (ms : List ℕ) → Path C m ms b → (ns : List ℕ) × Path C a ns b × ((x : ℕ) → In x ns → (x ≡ v) ⊎ ((x ≡ m) ⊎ In x ms))
  over a m b h ms p = go (after-cases C v a m h).2
    where
      go : (C a m ≡ true) ⊎ ((C v a ≡ true) × (C v m ≡ true) × (a ≢ m)) → (ns : List ℕ) × Path C a ns b × ((x : ℕ) → In x ns → (x ≡ v) ⊎ ((x ≡ m) ⊎ In x ms))
      go (inl e) = (m ∷ ms, (e, p), λ x i. inr i)
      go (inr t) = (v ∷ m ∷ ms, (sy a v ∙ t.0, (t.1, p)), λ x i. i)

  expand : (a : ℕ) (ms : List ℕ) (b : ℕ) → Path (after C v) a ms b → (ns : List ℕ) × Path C a ns b × ((x : ℕ) → In x ns → (x ≡ v) ⊎ In x ms)
  expand a [] b h = go (after-cases C v a b h).2
    where
      go : (C a b ≡ true) ⊎ ((C v a ≡ true) × (C v b ≡ true) × (a ≢ b)) → (ns : List ℕ) × Path C a ns b × ((x : ℕ) → In x ns → (x ≡ v) ⊎ In x [])
      go (inl e) = ([], e, λ x i. inr i)
      go (inr t) = (v ∷ [], (sy a v ∙ t.0, t.1), λ x i. i)
  expand a (m ∷ ms) b h =
      let r = expand m ms b h.1 in
      let t = over a m b h.0 r.0 r.1 in
      (t.0, t.1, λ x i. sort x r.0 (r.2 x) (t.2 x i))
    where
      sort : (x : ℕ) (ns : List ℕ) → (In x ns → (x ≡ v) ⊎ In x ms) → (x ≡ v) ⊎ ((x ≡ m) ⊎ In x ns) → (x ≡ v) ⊎ In x (m ∷ ms)
      sort x ns f (inl q) = inl q
      sort x ns f (inr (inl q)) = inr (inl q)
      sort x ns f (inr (inr k)) = ⊎_elim (λ (q : x ≡ v). inl q) (λ (j : In x ms). inr (inr j)) (f k)

filled-path : (C : Graph) (xs : List ℕ) → Symmetric C → Within C xs → (a b : ℕ) → filled C xs a b ≡ true → Joined C xs a b
filled-path C [] sy w a b h = ([], h, λ m i. absurd i)
filled-path C (v ∷ vs) sy w a b h =
    ⊎_elim (λ (e : C a b ≡ true). ([], e, λ m i. absurd i)) (λ (e : filled (after C v) vs a b ≡ true). longer e (filled-path (after C v) vs (after-symmetric C v sy) (within-after C v vs w) a b e)) (or_cases (C a b) (filled (after C v) vs a b) h)
  where
    longer : filled (after C v) vs a b ≡ true → Joined (after C v) vs a b → Joined C (v ∷ vs) a b
    longer e j =
        let ends = within-filled (after C v) vs (within-after C v vs w) a b e in
        let t = expand C sy v a j.0 b j.1 in (
          t.0,
          t.1,
          λ m i. ⊎_elim (λ (q : m ≡ v). (inl (q, ends.0), inl (q, ends.1))) (λ (k : In m j.0). (inr (j.2 m k).0, inr (j.2 m k).1)) (t.2 m i),
        )

-- ---- a path, as one after v has left

module _ (C : Graph) (sy : Symmetric C) (ir : Irreflexive C) (v : ℕ) where
  -- a is b, or a path after v has left joins them, over some of the same stations
  abbrev Shorter : ℕ → List ℕ → ℕ → Type 0
  Shorter a ms b = (a ≡ b) ⊎ ((ns : List ℕ) × Path (after C v) a ns b × ((x : ℕ) → In x ns → In x ms × (x ≢ v)))

  ahead : (a m b : ℕ) (ms ks : List ℕ) → ((x : ℕ) → In x ms → In x ks) → In m ks → m ≢ v → after C v a m ≡ true → Shorter m ms b → Shorter a ks b
  ahead a m b ms ks f i ne h (inl q) = inr ([], ap (after C v a) (sym q) ∙ h, λ x k. absurd k)
  ahead a m b ms ks f i ne h (inr t) = inr (m ∷ t.0, (h, t.1), λ x k. ⊎_elim (λ (q : x ≡ m). (rw q i, λ r. ne (sym q ∙ r))) (λ (j : In x t.0). (f x (t.2 x j).0, (t.2 x j).1)) k)

  wider : (a b : ℕ) (ms ks : List ℕ) → ((x : ℕ) → In x ms → In x ks) → Shorter a ms b → Shorter a ks b
  wider a b ms ks f (inl q) = inl q
  wider a b ms ks f (inr t) = inr (t.0, t.1, λ x i. (f x (t.2 x i).0, (t.2 x i).1))

  -- from a over v to m
  skip : (a m b : ℕ) (ms ks : List ℕ) → ((x : ℕ) → In x ms → In x ks) → In m ks → a ≢ v → m ≢ v → C a v ≡ true → C v m ≡ true → Shorter m ms b → Shorter a ks b
  skip a m b ms ks f i na nm h k r =
      ⊎_elim
      (λ (q : a ≡ m). let P : ℕ → Type 0 = λ x. Shorter x ks b in subst P (sym q) (wider m b ms ks f r))
      (λ (d : a ≡ m → ⊥). ahead a m b ms ks f i nm (after-new C v a m na nm d (sy v a ∙ h) k) r)
      (cases_eq a m)

  shorten : (a : ℕ) (ms : List ℕ) (b : ℕ) → a ≢ v → b ≢ v → Path C a ms b → Shorter a ms b
  shorten a [] b na nb h = inr ([], after-old C v a b na nb h, λ x i. absurd i)
  shorten a (m ∷ []) b na nb h =
      ⊎_elim
      (λ (q : m ≡ v). ⊎_elim (λ (r : a ≡ b). inl r) (λ (d : a ≡ b → ⊥). inr ([], after-new C v a b na nb d (cc (sy v a, h.0)) (cc h.1), λ x i. absurd i)) (cases_eq a b))
      (λ (d : m ≡ v → ⊥). ahead a m b [] (m ∷ []) (λ x i. absurd i) (inl refl) d (after-old C v a m na d h.0) (inr ([], after-old C v m b d nb h.1, λ x i. absurd i)))
      (cases_eq m v)
  shorten a (m ∷ k ∷ ms) b na nb h =
      ⊎_elim
      (λ (q : m ≡ v). let vk : C v k ≡ true = cc h.1.0 in
      let nk : k ≢ v = λ r. both_ways (C v v) (ir v) (ap (C v) (sym r) ∙ vk) in
      skip a k b ms (m ∷ k ∷ ms) (λ x i. inr (inr i)) (inr (inl refl)) na nk (ap (C a) (sym q) ∙ h.0) vk (shorten k ms b nk nb h.1.1))
      (λ (d : m ≡ v → ⊥). ahead a m b (k ∷ ms) (m ∷ k ∷ ms) (λ x i. inr i) (inl refl) d (after-old C v a m na d h.0) (shorten m (k ∷ ms) b d nb h.1))
      (cases_eq m v)

path-filled : (C : Graph) (xs : List ℕ) → Symmetric C → Irreflexive C → Distinct xs → (a b : ℕ) → a ≢ b → Joined C xs a b → filled C xs a b ≡ true
path-filled C xs sy ir d a b ne ([], h, f) = direct xs
  where
    direct : (xs : List ℕ) → filled C xs a b ≡ true
    direct [] = h
    direct (v ∷ vs) = or_left (C a b) (filled (after C v) vs a b) h
path-filled C [] sy ir d a b ne (m ∷ ms, h, f) = absurd (f m (inl refl)).0
path-filled C (v ∷ vs) sy ir d a b ne (m ∷ ms, h, f) =
    or_right (C a b) (filled (after C v) vs a b)
    (path-filled (after C v) vs (after-symmetric C v sy) (after-irreflexive C v ir) d.1 a b ne (taken (shorten C sy ir v a (m ∷ ms) b (later a (f m (inl refl)).0) (later b (f m (inl refl)).1) h)))
  where
    later : (a : ℕ) → Before (v ∷ vs) m a → a ≢ v
    later a (inl t) = not-head v a vs d t.1
    later a (inr t) = not-head v a vs d (before-in vs m a t)

    tail : (x a : ℕ) → x ≢ v → Before (v ∷ vs) x a → Before vs x a
    tail x a nx (inl t) = absurd (nx t.0)
    tail x a nx (inr t) = t

    taken : Shorter C sy ir v a (m ∷ ms) b → Joined (after C v) vs a b
    taken (inl q) = absurd (ne q)
    taken (inr t) = (t.0, t.1, λ x i. let k = t.2 x i in (tail x a k.1 (f x k.0).0, tail x b k.1 (f x k.0).1))

-- ---- the tests of specs/

before-earlier : (xs : List ℕ) (m a : ℕ) → Before xs m a → earlier xs m a ≡ true
before-earlier [] m a b = absurd b
before-earlier (y ∷ ys) m a b = step (eqb y m) refl b (before-earlier ys m a)
  where
    step : (e : Bool) → eqb y m ≡ e → ((m ≡ y) × In a ys) ⊎ Before ys m a → (Before ys m a → earlier ys m a ≡ true) → member a (cond e ys (later ys m)) ≡ true
    step true e (inl t) ih = member-in a ys t.1
    step true e (inr b) ih = member-in a ys (before-in ys m a b)
    step false e (inl t) ih = absurd (eqb-false y m e (sym t.0))
    step false e (inr b) ih = ih b

earlier-before : (xs : List ℕ) (m a : ℕ) → earlier xs m a ≡ true → Before xs m a
earlier-before [] m a e = absurd (false≢true e)
earlier-before (y ∷ ys) m a e = step (eqb y m) refl e (earlier-before ys m a)
  where
    step : (t : Bool) → eqb y m ≡ t → member a (cond t ys (later ys m)) ≡ true → (earlier ys m a ≡ true → Before ys m a) → ((m ≡ y) × In a ys) ⊎ Before ys m a
    step true t h ih = inl (sym (eqb-true y m t), in-member a ys h)
    step false t h ih = inr (ih h)

path-to : (G : Graph) (a : ℕ) (ms : List ℕ) (b : ℕ) → Path G a ms b → path G a ms b ≡ true
path-to G a [] b h = h
path-to G a (m ∷ ms) b h = and_from (G a m) (path G m ms b) h.0 (path-to G m ms b h.1)

path-from : (G : Graph) (a : ℕ) (ms : List ℕ) (b : ℕ) → path G a ms b ≡ true → Path G a ms b
path-from G a [] b h = h
path-from G a (m ∷ ms) b h = let t = and_parts (G a m) (path G m ms b) h in (t.0, path-from G m ms b t.1)

module _ (C : Graph) (xs : List ℕ) (sy : Symmetric C) (a b : ℕ) where
  pub filled-joined : Within C xs → filled C xs a b ≡ true → spec.Joined C xs a b
  filled-joined w h =
      let t = filled-path C xs sy w a b h in
      (t.0, path-to C a t.0 b t.1, λ m i. (before-earlier xs m a (t.2 m i).0, before-earlier xs m b (t.2 m i).1))

  pub joined-filled : Irreflexive C → Distinct xs → a ≢ b → spec.Joined C xs a b → filled C xs a b ≡ true
  joined-filled ir d ne t =
      path-filled C xs sy ir d a b ne (t.0, path-from C a t.0 b t.1, λ m i. (earlier-before xs m a (t.2 m i).0, earlier-before xs m b (t.2 m i).1))
