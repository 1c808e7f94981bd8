use Rattle.std.proofs.Common.{sym, ◌∙◌}
use Rattle.elimination.proofs.Rows.{rows-below}
use Rattle.elimination.proofs.dropping.joins_common.Goals as goal

pub common_within-requires-clause-third : goal.common_within-requires-clause-third
common_within-requires-clause-third c = (rows-below c.args.pairs.now.words c.args.v c.args.a (sym c.contains.ensures ∙ c.if-not-contains.false)).1
