use Rattle.std.proofs.Common.{sym, ◌∙◌}
use Rattle.plan_parts.proofs.Numbering.{cell_below}
use Rattle.run_parts.proofs.Lending.{made_no_left}
use Rattle.run_parts.proofs.Steps.{wrote, has-place}
use Rattle.run_parts.proofs.pivots.Tables.meet.Goals as goal

pub take-requires : goal.take-requires
take-requires g c = cell_below _ _ _ _ _ (sym c.in-Some-cell.ensures)

pub returns-in-Some-cell : goal.returns-in-Some-cell
returns-in-Some-cell g c = record {
  lent = c.take.ensures.lent;
  pivoted = wrote _ _ _ _ _ _ _ _ _ _ _ _ _ _ c.take.ensures.entries c.take.ensures.marks c.args.self.now.room (sym c.in-Some-cell.ensures) (sym c.in-Some.ensures) c.requires.middle c.requires.side;
}

pub returns-in_default-cell : goal.returns-in_default-cell
returns-in_default-cell g c =
    absurd (has-place g.E.Entry.kind _ _ _ _ _ _ _ _ _ c.args.self.now.reserve.now.closed c.requires.after c.requires.row (sym c.in-Some.ensures) c.requires.side (sym c.cell.ensures ∙ c.in_default-cell.is))

pub returns-in_default : goal.returns-in_default
returns-in_default g c = made_no_left _ _ _ _ _ (sym c.held.ensures ∙ c.in_default.is)
