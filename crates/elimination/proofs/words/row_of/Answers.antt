use Rattle.std.proofs.Common.{ap, ◌∙◌}
use Rattle.elimination.specs.Words.{in_row}
use Rattle.elimination.proofs.words.row_of.Goals as goal

pub returns : goal.returns
returns c = ap in_row c.copy_from_slice.ensures.after ∙ c.row_at.ensures.row
