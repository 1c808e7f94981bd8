use Rattle.std.proofs.Common.{◌≡◌, ℕ, false, List, replicate, sym, ap, ◌∙◌}
use Rattle.elimination.specs.Words.{rows}
use Rattle.elimination.proofs.Rows.{rows_empty}
use Rattle.elimination.proofs.pair_set.PairSet.empty.Goals as goal

none : (words : List ℕ) → words ≡ replicate 4096 0 → (a b : ℕ) → rows words a b ≡ false
none words e a b = ap (λ (ws : List ℕ). rows ws a b) e ∙ rows_empty a b

pub invariant_of-result : goal.invariant_of-result
invariant_of-result c = record { mirrored = λ a b. none c.no_pairs.result c.no_pairs.ensures a b ∙ sym (none c.no_pairs.result c.no_pairs.ensures b a) }

pub returns : goal.returns
returns c = none c.no_pairs.result c.no_pairs.ensures
