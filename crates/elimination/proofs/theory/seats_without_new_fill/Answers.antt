use Rattle.elimination.proofs.Statements.{seats-without-new-fill}
use Rattle.elimination.proofs.theory.seats_without_new_fill.Goals as goal

pub returns : goal.returns
returns c = seats-without-new-fill
