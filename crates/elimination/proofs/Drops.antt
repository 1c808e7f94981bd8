-- A spare pair can go, and which pairs need no second look.
use Rattle.std.proofs.Common.{◌≡◌, ℕ, zero, suc, ◌+◌, ◌*◌, ◌/◌, ◌%◌, ◌<◌, ◌≤◌, Bool, true, false, cond, ◌≢◌, ◌⊎◌, List, [], ◌∷◌, ◌++◌, length, set, sym, refl, ap, ◌∙◌, subst, inl, inr, ⊎_elim, arith, length-set}
use mathlib.Core.Path.{fun_ext}
use Rattle.std.proofs.lemmas.List.{get_or-set_same, get_or-set_other}
use Rattle.std.proofs.lemmas.Bool.Decides.{nat_tests}
use Rattle.std.proofs.lemmas.Bool.{both_ways, cases_Bool, cases_eq}
use Rattle.network.specs.Bits.{count_to}
use Rattle.elimination.specs.Dropping.{Looked, LookedApart, Lost, Ready, Tight, marked, weight}
use Rattle.elimination.specs.Graphs.{Below, Graph, Simple, Sub, spare, without}
use Rattle.elimination.specs.Orders.{In}
use Rattle.elimination.proofs.Members.{in-member}
use Rattle.elimination.proofs.Relations.{Symmetric, SpareIn, in_parts, spare-from, spare-to}
use Rattle.elimination.proofs.Removal.{without_sub, without-symmetric, without-irreflexive}
use Rattle.elimination.proofs.Statements.{spare-pairs-can-go}
use Rattle.elimination.proofs.Walks.{Walked}

-- ---- a pair goes

without-kept : (C G : Graph) (u v a b : ℕ) → G a b ≡ true → C a b ≡ true → C u v ≡ false → C v u ≡ false → without G u v a b ≡ true
without-kept C G u v a b h k p q = other G u v a b h (λ i j. both_ways (C u v) p (cc)) (λ i j. both_ways (C v u) q (cc))
  where
    other : (G : Graph) (u v a b : ℕ) → G a b ≡ true → (a ≡ u → b ≡ v → ⊥) → (a ≡ v → b ≡ u → ⊥) → without G u v a b ≡ true
    other G u v a b h p q = grind (arith, nat_tests)

without_gone : (G : Graph) (u v : ℕ) → without G u v u v ≡ false
without_gone G u v = grind (arith, nat_tests)

without-apart : (G : Graph) (u v a b : ℕ) → a ≢ u → a ≢ v → without G u v a b ≡ G a b
without-apart G u v a b p q = grind (arith, nat_tests)

-- a pair that is not there
without-absent : (G : Graph) (u v : ℕ) → Symmetric G → G u v ≡ false → G ≡ without G u v
without-absent G u v sy e = fun_ext (λ a. fun_ext (λ b. at a b (cases_eq a u) (cases_eq b v) (cases_eq a v) (cases_eq b u)))
  where
    at : (a b : ℕ) → (a ≡ u) ⊎ (a ≢ u) → (b ≡ v) ⊎ (b ≢ v) → (a ≡ v) ⊎ (a ≢ v) → (b ≡ u) ⊎ (b ≢ u) → G a b ≡ without G u v a b
    at a b (inl p) (inl q) _ _ = let z : G a b ≡ false = ap (λ (x : ℕ). G x b) p ∙ ap (G u) q ∙ e in grind (arith, nat_tests)
    at a b _ _ (inl p) (inl q) = let z : G a b ≡ false = sy a b ∙ ap (λ (x : ℕ). G x a) q ∙ ap (G u) p ∙ e in grind (arith, nat_tests)
    at a b (inr p) _ (inr q) _ = grind (arith, nat_tests)
    at a b (inr p) _ _ (inr q) = grind (arith, nat_tests)
    at a b _ (inr p) (inr q) _ = grind (arith, nat_tests)
    at a b _ (inr p) _ (inr q) = grind (arith, nat_tests)

ready-without : (n : ℕ) (C G : Graph) (u v : ℕ) → Symmetric C → Ready n C G → C u v ≡ false → SpareIn G u v → Ready n C (without G u v)
ready-without n C G u v even r k s = ⊎_elim there (λ (e : G u v ≡ false). subst (λ (K : Graph). Ready n C K) (without-absent G u v r.simple.symmetric e) r) (cases_Bool (G u v))
  where
    there : G u v ≡ true → Ready n C (without G u v)
    there h =
        record {
          simple = record {
            symmetric = without-symmetric G u v r.simple.symmetric;
            irreflexive = without-irreflexive G u v r.simple.irreflexive;
            below = λ a b g. r.simple.below a b (without_sub G u v a b g);
          };
          perfect = spare-pairs-can-go n G r.simple r.perfect u v h (spare-to n G u v s);
          holds = λ a b q. without-kept C G u v a b (r.holds a b q) q k (sym (even u v) ∙ k);
        }

sub-without : (G H : Graph) (u v : ℕ) → Sub H G → Sub (without H u v) G
sub-without G H u v s a b h = s a b (without_sub H u v a b h)

spare-swap : (G : Graph) (u v : ℕ) → SpareIn G u v → SpareIn G v u
spare-swap G u v s a va ua b ne vb ub = s a ua va b ne ub vb

-- ---- which pairs were looked at

-- a pair apart from u and v that is spare without u v was spare with it
spare-before : (G : Graph) (u v a b : ℕ) → a ≢ u → a ≢ v → b ≢ u → b ≢ v → SpareIn (without G u v) a b → SpareIn G a b
spare-before G u v a b au av bu bv s x ax bx y ne ay by =
    without_sub G u v x y
    (s x (without-apart G u v a x au av ∙ ax) (without-apart G u v b x bu bv ∙ bx) y ne (without-apart G u v a y au av ∙ ay) (without-apart G u v b y bu bv ∙ by))

-- a row that is unmarked after u and v were marked is neither, and was unmarked before
unmarked : (again : List Bool) (u v a : ℕ) → length again ≡ 512 → u < 512 → v < 512 → marked (set (set again u true) v true) a ≡ false → (a ≢ u) × (a ≢ v) × (marked again a ≡ false)
unmarked again u v a l hu hv e =
    ⊎_elim
    (λ (q : a ≡ v). absurd (both_ways (marked (set (set again u true) v true) a) e (ap (marked (set (set again u true) v true)) q ∙ here)))
    (λ (nv : a ≡ v → ⊥). ⊎_elim
    (λ (q : a ≡ u). absurd (both_ways (marked (set again u true) a) (back nv) (ap (marked (set again u true)) q ∙ there)))
    (λ (nu : a ≡ u → ⊥). (nu, nv, sym (get_or-set_other again u a true false nu) ∙ back nv))
    (cases_eq a u))
    (cases_eq a v)
  where
    long : length (set again u true) ≡ 512
    long = simp length-set l

    here : marked (set (set again u true) v true) v ≡ true
    here = let lt : v < length (set again u true) = omega (arith, long) in get_or-set_same (set again u true) v true false lt

    there : marked (set again u true) u ≡ true
    there = let lt : u < length again = omega arith in get_or-set_same again u true false lt

    back : (a ≡ v → ⊥) → marked (set again u true) a ≡ false
    back nv = sym (get_or-set_other (set again u true) v a true false nv) ∙ e

-- no pair outside C is spare whose two rows are both unmarked, but pairs of u with stations that are not done
abbrev pub LookedTo : Graph → Graph → List Bool → ℕ → List ℕ → Type 0
LookedTo C G again u done = (a b : ℕ) → (a ≡ u → In b done) → (b ≡ u → In a done)
    → G a b ≡ true → C a b ≡ false → marked again a ≡ false → marked again b ≡ false → spare 512 G a b ≢ true

module _ (C G : Graph) (u : ℕ) (again : List Bool) (done : List ℕ) where
  pub looked-apart : LookedApart C G again u → LookedTo C G again u []
  looked-apart f a b p q = f a b p q

  looked-drop : (v : ℕ) → Below G 512 → length again ≡ 512 → u < 512 → v < 512 → LookedTo C G again u done → LookedTo C (without G u v) (set (set again u true) v true) u (done ++ v ∷ [])
  looked-drop v below l hu hv f a b _ _ h k ma mb s =
      let p = unmarked again u v a l hu hv ma in
      let q = unmarked again u v b l hu hv mb in
      f a b (λ i. absurd (p.0 i)) (λ i. absurd (q.0 i)) (without_sub G u v a b h) k p.2 q.2
      (spare-to 512 G a b (spare-before G u v a b p.0 p.1 q.0 q.1 (spare-from 512 (without G u v) a b (λ x y g. below x y (without_sub G u v x y g)) s)))

  looked-keep : (v : ℕ) → Below G 512 → Symmetric G → Symmetric C → (C u v ≡ false → spare 512 G u v ≡ true → ⊥) → LookedTo C G again u done → LookedTo C G again u (done ++ v ∷ [])
  looked-keep v below sy even here f a b p q h k ma mb s = ⊎_elim row (λ (na : a ≡ u → ⊥). ⊎_elim (column na) (λ (nb : b ≡ u → ⊥). f a b (λ i. absurd (na i)) (λ i. absurd (nb i)) h k ma mb s) (cases_eq b u)) (cases_eq a u)
    where
      -- the pair u x
      at : (x : ℕ) → In x (done ++ v ∷ []) → C u x ≡ false → SpareIn G u x → (In x done → ⊥) → ⊥
      at x m c t nf =
          ⊎_elim nf
          (λ (i : In x (v ∷ [])). ⊎_elim (λ (e : x ≡ v). here (ap (C u) (sym e) ∙ c) (ap (spare 512 G u) (sym e) ∙ spare-to 512 G u x t)) (λ (no : ⊥). no) i)
          (in_parts x done (v ∷ []) m)

      row : a ≡ u → ⊥
      row i =
          let t : SpareIn G u b = subst (λ (x : ℕ). SpareIn G x b) i (spare-from 512 G a b below s) in
          at b (p i) (sym (ap (λ (x : ℕ). C x b) i) ∙ k) t
          (λ m. f a b (λ _. m) (λ j. subst (λ (x : ℕ). In x done) (j ∙ sym i) m) h k ma mb s)

      column : (a ≡ u → ⊥) → b ≡ u → ⊥
      column na j =
          let t : SpareIn G u a = spare-swap G a u (subst (λ (x : ℕ). SpareIn G a x) j (spare-from 512 G a b below s)) in
          at a (q j) (even u a ∙ sym (ap (C a) j) ∙ k) t
          (λ m. f a b (λ i. absurd (na i)) (λ _. m) h k ma mb s)

  -- where every neighbour of u is done
  pub looked-end : (E : Graph) → Symmetric E → Sub G E → Walked E u done → LookedTo C G again u done → Looked C G again
  looked-end E sy sub w f a b h k ma mb s = f a b (λ i. is b (sym (ap (λ (x : ℕ). E x b) i) ∙ sub a b h)) (λ j. is a (sy u a ∙ sym (ap (E a) j) ∙ sub a b h)) h k ma mb s
    where
      is : (x : ℕ) → E u x ≡ true → In x done
      is x e = in-member x done (w x ∙ e)

-- ---- one row

-- what holds where the pairs of u with the stations that are done had their turn, in a row that began with the graph E and the marks `began`
abbrev pub RowTurn : Graph → Graph → List Bool → ℕ → List ℕ → Graph → List Bool → Bool → Type 0
RowTurn C E began u done G again dropped =
    ((n : ℕ) → Ready n C E → Ready n C G)
    × Sub G E
    × LookedTo C G again u done
    × (dropped ≡ true → Lost E G)
    × (dropped ≡ false → again ≡ began)
    × (length again ≡ 512)

module _ (C E : Graph) (began : List Bool) (u : ℕ) (done : List ℕ) (v : ℕ) (G G' : Graph) (again again' : List Bool) (d d' : Bool)
    (even : Symmetric C) (sy : Symmetric G) (below : Below G 512) (hu : u < 512) (hv : v < 512) (t : RowTurn C E began u done G again d) where
  pub row_drop : E u v ≡ true → C u v ≡ false → spare 512 G u v ≡ true → G' ≡ without G u v → again' ≡ set (set again u true) v true → d' ≡ true → RowTurn C E began u (done ++ v ∷ []) G' again' d'
  row_drop h k s eg ea ed =
      let P : Graph → Type 0 = λ K. RowTurn C E began u (done ++ v ∷ []) K again' d' in
      let Q : List Bool → Type 0 = λ l. RowTurn C E began u (done ++ v ∷ []) (without G u v) l d' in
      subst P (sym eg) (subst Q (sym ea) (
        (λ n r. ready-without n C G u v even (t.0 n r) k (spare-from 512 G u v below s)),
        sub-without E G u v t.1,
        looked-drop C G u again done v below t.5 hu hv t.2,
        (λ _. (u, v, h, without_gone G u v, hu, hv)),
        (λ g. absurd (both_ways d' g ed)),
        simp (length-set, length-set) t.5,
      ))

  pub row_keep : (C u v ≡ false → spare 512 G u v ≡ true → ⊥) → G' ≡ G → again' ≡ again → d' ≡ d → RowTurn C E began u (done ++ v ∷ []) G' again' d'
  row_keep safe eg ea ed =
      let P : Graph → Type 0 = λ K. RowTurn C E began u (done ++ v ∷ []) K again' d' in
      let Q : List Bool → Type 0 = λ l. RowTurn C E began u (done ++ v ∷ []) G l d' in
      subst P (sym eg) (subst Q (sym ea) (
        t.0,
        t.1,
        looked-keep C G u again done v below sy even safe t.2,
        (λ g. t.3 (sym ed ∙ g)),
        (λ g. t.4 (sym ed ∙ g)),
        t.5,
      ))

-- ---- one round

pub looked-start : (C G : Graph) (again : List Bool) → Below G 512 → ((a : ℕ) → a < 512 → marked again a ≡ true) → Looked C G again
looked-start C G again below m a b h k ma mb s = both_ways (marked again a) ma (m a (below a b h).0)

-- where no row below n is marked, no fill pair is spare
pub looked-tight : (n : ℕ) (C G : Graph) (again : List Bool) → Simple n G → Looked C G again → ((j : ℕ) → j < n → marked again j ≡ false) → Tight n C G
looked-tight n C G again s f m a b h k t =
    let l = s.below a b h in
    f a b h k (m a l.0) (m b l.1) (spare-to 512 G a b (spare-from n G a b s.below t))

-- what holds where the rows below u had their turn, in a round that began with the graph E
abbrev pub RoundTurn : ℕ → Graph → Graph → ℕ → Graph → List Bool → Bool → Type 0
RoundTurn n C E u G again dropped =
    Ready n C G
    × Sub G E
    × Looked C G again
    × (dropped ≡ true → Lost E G)
    × (dropped ≡ false → (j : ℕ) → j < u → marked again j ≡ false)
    × (length again ≡ 512)

-- ---- a graph that has lost a pair weighs less

less : (p q : Bool) → (p ≡ true → q ≡ true) → cond p 1 0 ≤ cond q 1 0
less true q f = simp (f refl) (omega arith)
less false q f = omega arith

count-mono : (p q : ℕ → Bool) (n : ℕ) → ((k : ℕ) → p k ≡ true → q k ≡ true) → count_to p n ≤ count_to q n
unfolding count_to
count-mono p q zero f = omega arith
count-mono p q (suc n) f = omega (arith, count-mono p q n f, less (p n) (q n) (f n))

count_less : (p q : ℕ → Bool) (n k : ℕ) → ((k : ℕ) → p k ≡ true → q k ≡ true) → k < n → p k ≡ false → q k ≡ true → count_to p n < count_to q n
unfolding count_to
count_less p q zero k f h e g = absurd (let no : ⊥ = omega arith in no)
count_less p q (suc n) k f h e g =
    ⊎_elim
    (λ i. let x : ◌≡◌ {A = ℕ} (cond (p n) 1 0) 0 = ap (λ (j : ℕ). cond (p j) 1 0) (sym i) ∙ ap (λ (b : Bool). cond b 1 0) e in
    let y : ◌≡◌ {A = ℕ} (cond (q n) 1 0) 1 = ap (λ (j : ℕ). cond (q j) 1 0) (sym i) ∙ ap (λ (b : Bool). cond b 1 0) g in
    omega (arith, count-mono p q n f))
    (λ ne. let lt : k < n = omega arith in omega (arith, count_less p q n k f lt e g, less (p n) (q n) (f n)))
    (cases_eq k n)

pub weight-less : (G H : Graph) → Sub H G → Lost G H → weight H < weight G
unfolding weight
weight-less G H s l =
    let a = l.0 in
    let b = l.1 in
    let la : a < 512 = l.4 in
    let lb : b < 512 = l.5 in
    let d : (a * 512 + b) / 512 ≡ a = omega arith in
    let m : (a * 512 + b) % 512 ≡ b = omega arith in
    count_less (λ k. H (k / 512) (k % 512)) (λ k. G (k / 512) (k % 512)) 262144 (a * 512 + b) (λ k. s (k / 512) (k % 512)) (omega arith)
    (simp (d, m) l.3) (simp (d, m) l.2)
