use Rattle.std.proofs.Common.{ℕ, ◌-◌, ◌*◌, ap, ◌∙◌, arith}
use Rattle.std.proofs.lemmas.Nat.{one_shl}
use Rattle.std.proofs.lemmas.Bool.Decides.{nat_tests}
use Rattle.network.specs.Bits.{bit_at}
use Rattle.network.proofs.Bits.{bit_at-none, bit_at-low}
use Rattle.elimination.proofs.words.below.Goals as goal

pub returns-then-n-first : goal.returns-then-n-first
returns-then-n-first c j h = bit_at-none j ∙ grind (arith, nat_tests)

pub returns-then-n-first-lt64 : goal.returns-then-n-first-lt64
returns-then-n-first-lt64 c j h =
    let m : ℕ = c.args.n - 64 * c.args.k in
    ap (λ (x : ℕ). bit_at (x - 1) j) (one_shl m 64 (omega arith)) ∙ bit_at-low m j ∙ grind (arith, nat_tests)

pub returns-else-n-first-lt64 : goal.returns-else-n-first-lt64
returns-else-n-first-lt64 c j h = bit_at-low 64 j ∙ grind (arith, nat_tests)
