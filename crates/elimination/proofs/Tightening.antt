-- A graph without spare fill pairs that some order closes: what its perfect orders fill.
use Rattle.std.proofs.Common.{◌≡◌, ℕ, true, false, List, sym, subst, ⊎_elim}
use Rattle.std.proofs.lemmas.Bool.{both_ways, cases_Bool}
use Rattle.elimination.specs.Dropping.{Ready, Tight}
use Rattle.elimination.specs.Elimination.{Minimal, fill, filled}
use Rattle.elimination.specs.Graphs.{Graph, Simple, Sub, closed}
use Rattle.elimination.specs.Orders.{Order}
use Rattle.elimination.specs.Theorems.{Perfect}
use Rattle.elimination.proofs.Least.{filled-holds}
use Rattle.elimination.proofs.Relations.{closed-from, closed-to, spare-to}
use Rattle.elimination.proofs.Statements.{fill-parts, fill-sub, filled-order-closed, filled-order-least, filled-simple, filled-sub, lacks, spare-beyond}

module _ (n : ℕ) (C : Graph) (s : Simple n C) where
  pub filled-perfect : (xs : List ℕ) → Order n xs → Perfect n (filled C xs)
  filled-perfect xs o = (xs, o, closed-to (filled C xs) xs (filled-order-closed n C s xs o))

  -- the filled pairs of an order are ready
  pub ready-filled : (xs : List ℕ) → Order n xs → Ready n C (filled C xs)
  ready-filled xs o = record { simple = filled-simple n C s xs o; perfect = filled-perfect xs o; holds = filled-holds C xs }

  -- an order that closes G fills within G, and so within what G lies in
  pub fills-within : (G : Graph) (xs ys : List ℕ) → Sub C G → Sub G (filled C xs) → Order n ys → closed G ys ≡ true → Sub (fill C ys) (fill C xs)
  fills-within G xs ys h w o c = fill-sub C xs ys (λ a b k. w a b (filled-order-least n C s ys o G h (closed-from G ys c) a b k))

  pub tight-minimal : (G : Graph) (xs : List ℕ) → Ready n C G → Tight n C G → Order n xs → closed G xs ≡ true → Minimal n C xs
  tight-minimal G xs r t o c ys oy p =
      let u = p.1.0 in
      let v = p.1.1 in
      let w = fill-parts C xs u v p.1.2 in
      let f : Sub (filled C xs) G = filled-order-least n C s xs o G r.holds (closed-from G xs c) in
      let e = spare-beyond n C G r.perfect.0 ys r.perfect.1 oy s r.simple (closed-from G r.perfect.0 r.perfect.2) (λ a b k. f a b (filled-sub C xs ys p.0 a b k)) u v (f u v w.0) (lacks C ys u v p.1.3 w.1) in
      t e.0 e.1 e.2
      (⊎_elim (λ (k : C e.0 e.1 ≡ true). absurd (both_ways (filled C ys e.0 e.1) e.3 (filled-holds C ys e.0 e.1 k))) (λ (k : C e.0 e.1 ≡ false). k) (cases_Bool (C e.0 e.1)))
      (spare-to n G e.0 e.1 e.4)

-- a set whose pairs are the filled pairs of an order is ready
pub ready-pairs : (n m : ℕ) (C P : Graph) (xs : List ℕ) → m ≡ n → P ≡ filled C xs → Simple n C → Order n xs → Ready m C P
ready-pairs n m C P xs e q s o =
    let K : ℕ → Type 0 = λ k. Ready k C P in
    let L : Graph → Type 0 = λ G. Ready n C G in
    subst K (sym e) (subst L (sym q) (ready-filled n C s xs o))
