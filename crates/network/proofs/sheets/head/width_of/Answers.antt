use Rattle.std.proofs.Common.{◌*◌, ◌%◌, ◌^◌, ◌<◌, ◌≤◌, ◌∙◌, rules}
use Rattle.std.proofs.lemmas.Iterator.{first_from_Range}
use Rattle.network.proofs.Widths.{first_width}
use Rattle.network.proofs.sheets.head.width_of.Goals as goal

pub returns-clause-value : goal.returns-clause-value
returns-clause-value c =
    let n = c.args.stations in
    c.unwrap_or.ensures
    ∙ first_width n c.find.result
    (first_from_Range _ _ _ c.find.result (λ k. n ≤ (1 * 2 ^ k) % 2 ^ 32) (λ k. (1 * 2 ^ k) % 2 ^ 32 < n) c.find.ensures.ran (λ x q call. search rules) (λ x q call. search rules))
