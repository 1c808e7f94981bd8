use Rattle.std.proofs.Common.{ℕ, Bool, subst}
use Rattle.network.specs.Laws.{FirstIs}
use Rattle.elimination.specs.Words.{rows}
use Rattle.elimination.proofs.RowTests.{is-next}
use Rattle.elimination.proofs.words.next_in.Goals as goal

pub returns : goal.returns
returns c =
    let P : (ℕ → Bool) → Type 0 = λ p. FirstIs p c.args.from 512 c.first_in.result in
    let first = subst P c.row_at.ensures.row c.first_in.ensures in
    record { value = is-next (rows c.args.words.now) c.args.a c.args.from _ first; first = first }
