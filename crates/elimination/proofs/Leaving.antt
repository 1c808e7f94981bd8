-- One station leaves, and all leave in turn: what was taken along so far, and what is left.
use Rattle.std.proofs.Common.{◌≡◌, ℕ, ◌+◌, ◌<◌, Bool, true, false, ◌&&◌, ◌||◌, eqb, ◌≢◌, List, [], ◌∷◌, length, get_or, drop, sym, refl, ap, ◌∙◌, subst, ⊎_elim, arith}
use mathlib.Core.Path.{fun_ext}
use Rattle.std.proofs.lemmas.Bool.Decides.{nat_tests}
use Rattle.std.proofs.Math.Bool.{or-false}
use Rattle.std.proofs.lemmas.List.{drop_all, drop_more}
use Rattle.std.proofs.lemmas.Bool.{both_ways, cases_Bool}
use Rattle.elimination.specs.Elimination.{after, filled}
use Rattle.elimination.specs.Graphs.{Graph, Simple, apart, around, pairs_at, union}
use Rattle.elimination.specs.Orders.{Order}
use Rattle.elimination.proofs.Least.{after-old, after-cases, after-symmetric, after-irreflexive, filled-holds, within-after}
use Rattle.elimination.proofs.Relations.{Within, plain}

-- ---- one leaves

pub left : (E : Graph) (v : ℕ) → apart (union E (around E v)) v ≡ after E v
left E v = fun_ext (λ x. fun_ext (λ y. here x y))
  where
    here : (x y : ℕ) → apart (union E (around E v)) v x y ≡ after E v x y
    here x y = grind (arith, nat_tests)

pub simple-after : (n : ℕ) (E : Graph) (v : ℕ) → Simple n E → Simple n (after E v)
simple-after n E v s =
    record {
      symmetric = after-symmetric E v s.symmetric;
      irreflexive = after-irreflexive E v s.irreflexive;
      below = λ x y h. (let t = (after-cases E v x y h).2 in ⊎_elim (λ (c : E x y ≡ true). s.below x y c) (λ (c : (E v x ≡ true) × (E v y ≡ true) × (x ≢ y)). ((s.below v x c.0).1, (s.below v y c.1).1)) t);
    }

-- ---- all leave in turn

-- F holds what the first k stations took along, W is what is left
pub record Leaving (n : ℕ) (C : Graph) (xs : List ℕ) (k : ℕ) (W F : Graph) : Type 0 where
  pub simple : Simple n W
  pub within : Within W (drop k xs)
  pub so_far : (a b : ℕ) → filled C xs a b ≡ (F a b || filled W (drop k xs) a b)

pub leaving-start : (n : ℕ) (C : Graph) (xs : List ℕ) (W F : Graph) → Order n xs → Simple n C → W ≡ C → ((a b : ℕ) → F a b ≡ false) → Leaving n C xs 0 W F
leaving-start n C xs W F o s e f =
    let P : Graph → Type 0 = λ G. Leaving n C xs 0 G F in
    subst P (sym e) (record { simple = s; within = (plain n C xs o s).within; so_far = λ a b. sym (ap (λ (t : Bool). t || filled C xs a b) (f a b)) })

sel : (F w s f : Bool) → (w ≡ true → s ≡ false → f ≡ true) → (F || (w || f)) ≡ ((F || (w && s)) || f)
sel true w s f h = refl
sel false true true f h = refl
sel false true false f h = sym (h refl refl)
sel false false s f h = refl

pub leaving-step : (n : ℕ) (C : Graph) (xs : List ℕ) (k : ℕ) (W F W' F' : Graph) (v : ℕ) → k < length xs → get_or xs k 0 ≡ v → W' ≡ after W v → F' ≡ union F (pairs_at W v)
    → Leaving n C xs k W F → Leaving n C xs (k + 1) W' F'
leaving-step n C xs k W F W' F' v h q ew ef l =
    let P : Graph → Type 0 = λ G. Leaving n C xs (k + 1) G F' in
    let Q : Graph → Type 0 = λ G. Leaving n C xs (k + 1) (after W v) G in
    subst P (sym ew) (subst Q (sym ef) (record { simple = simple-after n W v l.simple; within = within-after W v (drop (k + 1) xs) (subst (λ (ys : List ℕ). Within W ys) d l.within); so_far = step }))
  where
    d : drop k xs ≡ v ∷ drop (k + 1) xs
    d = drop_more xs k 0 h ∙ ap (λ (a : ℕ). a ∷ drop (k + 1) xs) q

    step : (a b : ℕ) → filled C xs a b ≡ ((F a b || (W a b && (eqb a v || eqb b v))) || filled (after W v) (drop (k + 1) xs) a b)
    step a b =
        l.so_far a b ∙ ap (λ (ys : List ℕ). F a b || filled W ys a b) d
        ∙ sel (F a b) (W a b) (eqb a v || eqb b v) (filled (after W v) (drop (k + 1) xs) a b)
        (λ w e. filled-holds (after W v) (drop (k + 1) xs) a b (after-old W v a b (λ i. both_ways (eqb a v || eqb b v) e (grind (arith, nat_tests))) (λ i. both_ways (eqb a v || eqb b v) e (grind (arith, nat_tests))) w))

pub leaving-end : (n : ℕ) (C : Graph) (xs : List ℕ) (k : ℕ) (W F : Graph) → k ≡ length xs → Leaving n C xs k W F → F ≡ filled C xs
leaving-end n C xs k W F e l = fun_ext (λ a. fun_ext (λ b. sym (l.so_far a b ∙ ap (λ (ys : List ℕ). F a b || filled W ys a b) d ∙ ap (λ (t : Bool). F a b || t) (gone a b) ∙ or-false (F a b))))
  where
    d : drop k xs ≡ []
    d = drop_all k xs (omega arith)

    gone : (a b : ℕ) → W a b ≡ false
    gone a b = ⊎_elim (λ (t : W a b ≡ true). absurd (subst (λ (ys : List ℕ). Within W ys) d l.within a b t).0) (λ (t : W a b ≡ false). t) (cases_Bool (W a b))
