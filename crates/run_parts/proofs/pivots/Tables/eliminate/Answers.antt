use Rattle.std.proofs.Common.{◌∙◌}
use Rattle.run_parts.proofs.Lending.{columns_begun, columns_kept, column_done, columns_ended}
use Rattle.run_parts.proofs.pivots.Tables.eliminate.Goals as goal

pub loop-j-init : goal.loop-j-init
loop-j-init g c = rw c.into_iter-j-iterator.ensures.into_iter_gives (columns_begun _ _ _ _ c.column-j-items.ensures.reserve c.column-j-items.ensures.column c.column-j-items.ensures.from)

pub sweep-requires-clause-middle : goal.sweep-requires-clause-middle
sweep-requires-clause-middle g c = columns_kept _ _ _ _ _ c.loop-j.invariant c.args.k ∙ c.requires

pub loop-j-preserved : goal.loop-j-preserved
loop-j-preserved g c = column_done _ _ _ _ _ _ _ _ c.loop-j.invariant c.in-Some.ensures.steps c.sweep.ensures

pub returns : goal.returns
returns g c = columns_ended _ _ _ _ _ _ c.loop-j.invariant c.in-None.ensures.steps
