-- The couplings of a network, taken over row by row.
use Rattle.std.proofs.Common.{◌≡◌, ℕ, ◌+◌, Bool, true, false, cond, ◌&&◌, ltb, arith}
use mathlib.Core.Path.{fun_ext}
use Rattle.std.proofs.lemmas.Bool.Decides.{nat_tests}
use Rattle.elimination.specs.Graphs.{Graph, including, union}
use Rattle.plan_parts.specs.Plans.{pairs_below}

-- the pairs of G of two stations below n
abbrev pub pairs_among : Graph → ℕ → Graph
pairs_among G n x y = G x y && (ltb x n && ltb y n)

module _ (E K : Graph) (a : ℕ) where
  -- the pair of a and b, if it is one
  pub below_more : (b : ℕ) (wanted : Bool) → ((x y : ℕ) → K x y ≡ K y x) → wanted ≡ K a b
      → cond wanted (including (union E (pairs_below K a b)) a b) (union E (pairs_below K a b)) ≡ union E (pairs_below K a (b + 1))
  below_more b true sy e = fun_ext (λ x. fun_ext (λ y. let s = sy x y in grind (arith, nat_tests)))
  below_more b false sy e = fun_ext (λ x. fun_ext (λ y. let s = sy x y in grind (arith, nat_tests)))
