-- What a walk over the members of a row has done so far.
use Rattle.std.proofs.Common.{◌≡◌, ℕ, zero, suc, ◌+◌, ◌-◌, ◌*◌, ◌<◌, ◌≤◌, Bool, true, false, cond, not, ◌&&◌, ◌||◌, eqb, ◌≢◌, ◌⊎◌, List, [], ◌∷◌, ◌++◌, sym, refl, ap, ◌∙◌, inl, inr, arith}
use mathlib.Core.Path.{fun_ext}
use Rattle.std.proofs.lemmas.Bool.{cases_eq}
use Rattle.std.proofs.lemmas.Bool.Decides.{nat_tests}
use Rattle.network.specs.Bits.{count_to}
use Rattle.network.proofs.Bits.{count_to-add, count_to-same, count_to-le}
use Rattle.elimination.specs.Elimination.{pairs_below}
use Rattle.elimination.specs.Graphs.{Graph, apart, around, including, pairs_at, union, without}
use Rattle.elimination.specs.Orders.{member}
use Rattle.elimination.specs.Words.{between, struck, row_taken}
use Rattle.elimination.proofs.Members.{member_more}
use Rattle.elimination.proofs.Relations.{Symmetric, Irreflexive}

-- the walk has come to exactly the neighbours of v
abbrev pub Walked : Graph → ℕ → List ℕ → Type 0
Walked G v ys = (x : ℕ) → member x ys ≡ G v x

-- ---- taking out the pairs of v

-- G without the pairs of v with some stations
abbrev pub cut : Graph → ℕ → List ℕ → Graph
cut G v ys a b = G a b && not ((eqb a v && member b ys) || (eqb b v && member a ys))

pub cut-none : (G : Graph) (v : ℕ) → G ≡ cut G v []
cut-none G v = fun_ext (λ a. fun_ext (λ b. grind (arith, nat_tests)))

pub cut-more : (G : Graph) (v w : ℕ) (ys : List ℕ) → without (cut G v ys) v w ≡ cut G v (ys ++ w ∷ [])
cut-more G v w ys = fun_ext (λ a. fun_ext (λ b. at a b))
  where
    at : (a b : ℕ) → without (cut G v ys) v w a b ≡ cut G v (ys ++ w ∷ []) a b
    at a b = rw (member_more a w ys) (rw (member_more b w ys) (grind (arith, nat_tests)))

pub cut-all : (G : Graph) (v : ℕ) (ys : List ℕ) → Symmetric G → Walked G v ys → cut G v ys ≡ apart G v
cut-all G v ys sy f = fun_ext (λ a. fun_ext (λ b. at a b (cases_eq a v) (cases_eq b v)))
  where
    at : (a b : ℕ) → (a ≡ v) ⊎ (a ≢ v) → (b ≡ v) ⊎ (b ≢ v) → cut G v ys a b ≡ apart G v a b
    at a b (inl p) _ = let m : member b ys ≡ G a b = f b ∙ ap (λ (x : ℕ). G x b) (sym p) in grind (arith, nat_tests)
    at a b (inr p) (inl q) = let m : member a ys ≡ G a b = f a ∙ sy v a ∙ ap (G a) (sym q) in grind (arith, nat_tests)
    at a b (inr p) (inr q) = grind (arith, nat_tests)

-- ---- joining the neighbours of v

-- G, with some neighbours of v joined to all of them
abbrev pub joining : Graph → ℕ → List ℕ → Graph
joining G v ys a b = G a b || (member a ys && around G v a b)

pub joining-none : (G : Graph) (v : ℕ) → G ≡ joining G v []
joining-none G v = fun_ext (λ a. fun_ext (λ b. grind (arith, nat_tests)))

pub joining-more : (G : Graph) (v w : ℕ) (ys : List ℕ) → Irreflexive G → G v w ≡ true → struck (row_taken (joining G v ys) w v) w w ≡ joining G v (ys ++ w ∷ [])
joining-more G v w ys ir here = fun_ext (λ a. fun_ext (λ b. rw (member_more a w ys) (at a b (cases_eq a w) (cases_eq b w))))
  where
    row : (b : ℕ) → joining G v ys v b ≡ G v b
    row b = let h = ir v in grind (arith, nat_tests)

    at : (a b : ℕ) → (a ≡ w) ⊎ (a ≢ w) → (b ≡ w) ⊎ (b ≢ w) → struck (row_taken (joining G v ys) w v) w w a b ≡ (G a b || ((member a ys || eqb a w) && around G v a b))
    at a b (inr p) _ = grind (arith, nat_tests)
    at a b (inl p) (inl q) = let h : G a b ≡ false = ap (G a) (q ∙ sym p) ∙ ir a in grind (arith, nat_tests)
    at a b (inl p) (inr q) = let h : G v a ≡ true = ap (G v) p ∙ here in let r = row b in grind (arith, nat_tests)

pub joining-all : (G : Graph) (v : ℕ) (ys : List ℕ) → Walked G v ys → joining G v ys ≡ union G (around G v)
joining-all G v ys f = fun_ext (λ a. fun_ext (λ b. at a b (f a)))
  where
    at : (a b : ℕ) → member a ys ≡ G v a → joining G v ys a b ≡ union G (around G v) a b
    at a b m = grind arith

-- ---- keeping the pairs of v

-- F with the pairs of v and some stations
abbrev pub keeping : Graph → ℕ → List ℕ → Graph
keeping F v ys a b = F a b || ((eqb a v && member b ys) || (eqb b v && member a ys))

pub keeping-none : (F : Graph) (v : ℕ) → F ≡ keeping F v []
keeping-none F v = fun_ext (λ a. fun_ext (λ b. grind (arith, nat_tests)))

pub keeping-more : (F : Graph) (v w : ℕ) (ys : List ℕ) → including (keeping F v ys) v w ≡ keeping F v (ys ++ w ∷ [])
keeping-more F v w ys = fun_ext (λ a. fun_ext (λ b. at a b))
  where
    at : (a b : ℕ) → including (keeping F v ys) v w a b ≡ keeping F v (ys ++ w ∷ []) a b
    at a b = rw (member_more a w ys) (rw (member_more b w ys) (grind (arith, nat_tests)))

pub keeping-all : (F W : Graph) (v : ℕ) (ys : List ℕ) → Symmetric W → Walked W v ys → keeping F v ys ≡ union F (pairs_at W v)
keeping-all F W v ys sy f = fun_ext (λ a. fun_ext (λ b. at a b (cases_eq a v) (cases_eq b v)))
  where
    at : (a b : ℕ) → (a ≡ v) ⊎ (a ≢ v) → (b ≡ v) ⊎ (b ≢ v) → keeping F v ys a b ≡ union F (pairs_at W v) a b
    at a b (inl p) (inl q) = let m : member b ys ≡ W a b = f b ∙ ap (λ (x : ℕ). W x b) (sym p) in let n : member a ys ≡ W a b = f a ∙ sy v a ∙ ap (W a) (sym q) in grind (arith, nat_tests)
    at a b (inl p) (inr q) = let m : member b ys ≡ W a b = f b ∙ ap (λ (x : ℕ). W x b) (sym p) in grind (arith, nat_tests)
    at a b (inr p) (inl q) = let m : member a ys ≡ W a b = f a ∙ sy v a ∙ ap (W a) (sym q) in grind (arith, nat_tests)
    at a b (inr p) (inr q) = grind (arith, nat_tests)

-- ---- counting pairs

count_none : (p : ℕ → Bool) (n : ℕ) → ((k : ℕ) → k < n → p k ≡ false) → count_to p n ≡ 0
unfolding count_to
count_none p zero f = refl
count_none p (suc n) f = let ih = count_none p n (λ k h. f k (omega arith)) in let e = f n (omega arith) in let z : ◌≡◌ {A = ℕ} (cond (p n) 1 0) 0 = ap (λ (b : Bool). cond b 1 0) e in omega arith

pub count-lower : (G : Graph) (a : ℕ) → a ≤ 512 → count_to (between G a 0 a) 512 ≡ count_to (G a) a
count-lower G a h =
    let e : a + (512 - a) ≡ 512 = omega arith in
    let parts = count_to-add (between G a 0 a) a (512 - a) in
    let high = count_none (λ k. between G a 0 a (a + k)) (512 - a) (λ k l. none k) in
    let low = count_to-same (between G a 0 a) (G a) a (λ k l. some k l) in
    sym (ap (count_to (between G a 0 a)) e) ∙ parts ∙ omega arith
  where
    none : (k : ℕ) → between G a 0 a (a + k) ≡ false
    none k = grind (arith, nat_tests)

    some : (k : ℕ) → k < a → between G a 0 a k ≡ G a k
    some k l = grind (arith, nat_tests)

pub pairs-none : (G : Graph) → pairs_below 0 G ≡ 0
unfolding pairs_below
pairs-none G = refl

pub pairs-more : (n : ℕ) (G : Graph) → pairs_below (n + 1) G ≡ pairs_below n G + count_to (G n) n
unfolding pairs_below
pairs-more n G = let e : n + 1 ≡ suc n = omega arith in rw e

pub pairs-le : (n : ℕ) (G : Graph) → n ≤ 512 → pairs_below n G ≤ 512 * n
unfolding pairs_below
pairs-le zero G h = omega arith
pairs-le (suc n) G h = omega (arith, pairs-le n G (omega arith), count_to-le (G n) n)
