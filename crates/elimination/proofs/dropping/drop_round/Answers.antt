use Rattle.std.proofs.Common.{arith}
use Rattle.elimination.specs.View.{graph}
use Rattle.elimination.proofs.Drops.{looked-tight}
use Rattle.elimination.proofs.dropping.drop_round.Goals as goal

pub returns-clause-none : goal.returns-clause-none
returns-clause-none c =
    let i = c.loop-u.invariant in
    λ d. looked-tight c.args.n (graph c.args.couplings.now) (graph c.loop-u.pairs) c.loop-u.again i.0.simple i.2 (λ j l. i.4 d j (omega arith))
