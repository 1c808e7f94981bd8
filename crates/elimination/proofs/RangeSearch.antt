-- `find_map` over a range, said of the numbers in it.
use Rattle.std.proofs.Common.{◌≡◌, ℕ, ◌+◌, ◌-◌, ◌<◌, ◌≤◌, true, Option, Some, None, MatchOption, ap, subst, arith}
use denote.Param.Members.{Mut}
use Rattle.std.specs.declared.ops.Range.{Range}
use Rattle.std.specs.Fn.{Called}
use Rattle.std.specs.Iterator.Runs.{AllItemsGive, IsFirstToGive, Run, SomeRun}
use Rattle.std.specs.Option.{IfSome, IsSomeAnd, option_map}
use Rattle.std.proofs.iter.Yields.{nat_range_steps}
use Rattle.std.proofs.iter.runs.Sources.{range_runs}

some-same : (o : Option ℕ) (x : ℕ) → option_map (λ y. y) o ≡ Some x → o ≡ Some x
some-same None x e = e
some-same (Some y) x e = e

module _ {F B : Type 0} {g : Mut F (ℕ × Unit {0}) (Option B)} (f : F) (s : Range ℕ) (r : Option B) (No : ℕ → Type 0) (Yes : ℕ → B → Type 0)
    (keeps : (a : ℕ × Unit {0}) (x : Option B) (q : F) → Called g f a x q → q ≡ f) (no : (k : ℕ) → Called g f (k, tt) None f → No k) (yes : (k : ℕ) (y : B) → Called g f (k, tt) (Some y) f → Yes k y) where
  -- the first number that gives something, where those before it give nothing
  pub first_mapped : SomeRun nat_range_steps s (λ p. MatchOption r ((p.whole ≡ true) × AllItemsGive p g f None) (λ y. (i : ℕ) × (i < p.len) × (p.len ≡ i + 1) × IsFirstToGive p g f (Some y) None i))
      → MatchOption r ((k : ℕ) → s.start ≤ k → k < s.end → No k) (λ y. (k : ℕ) × (s.start ≤ k) × (k < s.end) × Yes k y × ((j : ℕ) → s.start ≤ j → j < k → No j))
  first_mapped d = by r d.2
    where
      p : Run nat_range_steps
      p = d.0

      start : d.0.from.start ≡ s.start
      start = ap (λ (k : Range ℕ). k.start) d.1

      end : d.0.from.end ≡ s.end
      end = ap (λ (k : Range ℕ). k.end) d.1

      at : (i : ℕ) → i < d.0.len → d.0.at i ≡ Some (d.0.from.start + i)
      at i h = some-same (d.0.at i) (d.0.from.start + i) ((range_runs d.0 d.0.seen).3 i h)

      none : (k : ℕ) → s.start ≤ k → k - s.start < d.0.len → IfSome (d.0.at (k - s.start)) (λ x. Called g f (x, tt) None f) → No k
      none k a h t =
          let e : d.0.from.start + (k - s.start) ≡ k = omega (arith, start) in
          subst No e (no (d.0.from.start + (k - s.start)) (subst (λ o. IfSome o (λ x. Called g f (x, tt) None f)) (at (k - s.start) h) t))

      below : (i : ℕ) → IsSomeAnd (d.0.at i) (λ x. Called g f (x, tt) None f) → i < d.0.len → No (d.0.from.start + i)
      below i t h = no (d.0.from.start + i) (subst (λ o. IsSomeAnd o (λ x. Called g f (x, tt) None f)) (at i h) t)

      by : (o : Option B) → MatchOption o ((d.0.whole ≡ true) × AllItemsGive d.0 g f None) (λ y. (i : ℕ) × (i < d.0.len) × (d.0.len ≡ i + 1) × IsFirstToGive d.0 g f (Some y) None i)
          → MatchOption o ((k : ℕ) → s.start ≤ k → k < s.end → No k) (λ y. (k : ℕ) × (s.start ≤ k) × (k < s.end) × Yes k y × ((j : ℕ) → s.start ≤ j → j < k → No j))
      by None h = λ k a b. none k a (omega (arith, start, end, (range_runs d.0 d.0.seen).1 h.0)) (h.1 keeps (k - s.start))
      by (Some y) h =
          let i : ℕ = h.0 in
          let lt : i < d.0.len = h.1 in
          let first = h.3 keeps in (
            d.0.from.start + i,
            omega (arith, start),
            omega (arith, start, end, (range_runs d.0 d.0.seen).0),
            yes (d.0.from.start + i) y (subst (λ o. IsSomeAnd o (λ x. Called g f (x, tt) (Some y) f)) (at i lt) first.0),
            λ j a b. (let e : d.0.from.start + (j - s.start) ≡ j = omega (arith, start) in subst No e (below (j - s.start) (first.1 (j - s.start) (omega (arith, start))) (omega (arith, start)))),
          )
