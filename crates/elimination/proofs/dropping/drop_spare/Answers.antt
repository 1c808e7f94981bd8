use lib.ListN.{get_or-replicate}
use Rattle.std.proofs.Common.{true, false, replicate}
use Rattle.elimination.specs.View.{graph}
use Rattle.elimination.proofs.Rows.{rows-below}
use Rattle.elimination.proofs.Drops.{looked-start, weight-less}
use Rattle.elimination.proofs.dropping.drop_spare.Goals as goal

pub loop-again-init : goal.loop-again-init
loop-again-init c = (c.requires.ready, (λ a b h. h), looked-start (graph c.args.couplings.now) (graph c.args.pairs.now) (replicate 512 true) (rows-below c.args.pairs.now.words) (λ a h. get_or-replicate 512 a true false h))

pub loop-again-smaller : goal.loop-again-smaller
loop-again-smaller c = weight-less _ _ c.drop_round.ensures.within (c.drop_round.ensures.some c.loop-again-test.true)
