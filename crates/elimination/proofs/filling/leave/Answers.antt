use Rattle.std.proofs.Common.{ap, ◌∙◌}
use Rattle.elimination.specs.Graphs.{Graph, apart}
use Rattle.elimination.specs.View.{graph}
use Rattle.elimination.proofs.Leaving.{left}
use Rattle.elimination.proofs.filling.leave.Goals as goal

pub returns : goal.returns
returns c = c.isolate.ensures ∙ ap (λ (G : Graph). apart G c.args.v) c.join_neighbours.ensures ∙ left (graph c.args.work.now) c.args.v
