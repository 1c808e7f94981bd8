use Rattle.std.proofs.Common.{◌≡◌, ℕ, ◌+◌, ◌-◌, ◌*◌, take, drop, ap, arith}
use Rattle.elimination.proofs.RowTests.{row-of}
use Rattle.elimination.proofs.words.row_at.Goals as goal

pub returns-clause-row : goal.returns-clause-row
returns-clause-row c =
    let n : (c.args.a * 8 + 8) - c.args.a * 8 ≡ 8 = omega arith in
    row-of c.args.words.now _ c.args.a c.requires (ap (λ (k : ℕ). take k (drop (c.args.a * 8) c.args.words.now)) n)
