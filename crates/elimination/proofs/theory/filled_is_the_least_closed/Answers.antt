use Rattle.elimination.proofs.Statements.{filled-is-the-least-closed}
use Rattle.elimination.proofs.theory.filled_is_the_least_closed.Goals as goal

pub returns : goal.returns
returns c = filled-is-the-least-closed
