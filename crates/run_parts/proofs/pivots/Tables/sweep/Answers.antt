use Rattle.std.proofs.Common.{sym, ◌∙◌}
use Rattle.run_parts.proofs.Lending.{made_no_right, rows_begun, rows_kept, row_done, rows_ended}
use Rattle.run_parts.proofs.pivots.Tables.sweep.Goals as goal

pub returns-in_default : goal.returns-in_default
returns-in_default g c = made_no_right _ _ _ _ _ (sym c.held.ensures ∙ c.in_default.is)

pub loop-i-init : goal.loop-i-init
loop-i-init g c = rw c.into_iter-i-iterator.ensures.into_iter_gives (rows_begun _ _ _ _ _ c.column-i-items.ensures.reserve c.column-i-items.ensures.column c.column-i-items.ensures.from)

pub meet-requires-clause-middle : goal.meet-requires-clause-middle
meet-requires-clause-middle g c = rows_kept _ _ _ _ _ _ c.requires.after c.loop-i.invariant c.args.k ∙ c.requires.middle

pub meet-requires-clause-side : goal.meet-requires-clause-side
meet-requires-clause-side g c = rows_kept _ _ _ _ _ _ c.requires.after c.loop-i.invariant c.args.j ∙ sym c.in-Some.ensures

pub loop-i-preserved : goal.loop-i-preserved
loop-i-preserved g c = row_done _ _ _ _ _ _ _ _ _ c.requires.after c.loop-i.invariant c.in-Some-i.ensures.steps c.meet.ensures

pub returns : goal.returns
returns g c = rows_ended _ _ _ _ _ _ _ c.loop-i.invariant c.in-None.ensures.steps
