use Rattle.std.proofs.Common.{◌≡◌, ℕ, ◌<◌, ◌≤◌, true, Some, None, Option, MatchOption, IsSome, refl, arith, rules}
use Rattle.std.proofs.lemmas.Iterator.{first_from_Range}
use Rattle.elimination.specs.Dropping.{marked}
use Rattle.elimination.specs.Graphs.{spare}
use Rattle.elimination.specs.View.{graph}
use Rattle.elimination.proofs.perfect.simplicial_station.Goals as goal

-- a search that passes over no number of its range but those that do not serve finds the one that does
found : (n : ℕ) (No : ℕ → Type 0) (Yes : ℕ → Type 0) (r : Option ℕ) → MatchOption r ((k : ℕ) → 0 ≤ k → k < n → No k) Yes
    → (v : ℕ) → v < n → (No v → ⊥) → IsSome r
found n No Yes None h v lt serves = absurd (serves (h v (omega arith) lt))
found n No Yes (Some i) h v lt serves = refl

pub unwrap-requires : goal.unwrap-requires
unwrap-requires c =
    let one = c.requires.one in
    let No : ℕ → Type 0 = λ v. marked c.args.left.now v ≡ true → spare 512 (graph c.args.pairs.now) v v ≡ true → ⊥ in
    found c.args.n No _ c.find-found.result
    (first_from_Range _ _ _ c.find-found.result (λ v. Unit {0}) No c.find-found.ensures.ran (λ x q call. tt) (λ x q call. search rules))
    one.0
    one.1
    (λ none. none one.2 one.3)
