use Rattle.std.proofs.Common.{◌∙◌, arith, length-set, refl, replicate}
use Rattle.elimination.specs.View.{graph}
use Rattle.plan_parts.proofs.Columns.{begins-none, begins-more, start_small}
use Rattle.plan_parts.proofs.reserve.parts.column_starts.Goals as goal

pub loop-j-init : goal.loop-j-init
loop-j-init c = (begins-none (graph c.args.pairs.now) c.args.n (replicate 513 0) refl, refl)

pub overflow_add-starts : goal.overflow_add-starts
overflow_add-starts c = omega (arith, c.loop-j.invariant.0 c.loop-j.j (omega arith), start_small (graph c.args.pairs.now) c.args.n c.loop-j.j c.requires (omega arith))

pub overflow_add-starts-in-loop-j : goal.overflow_add-starts-in-loop-j
overflow_add-starts-in-loop-j c = omega (arith, c.loop-j.invariant.0 c.loop-j.j (omega arith), start_small (graph c.args.pairs.now) c.args.n c.loop-j.j c.requires (omega arith), c.count_between.ensures.small)

pub loop-j-preserved : goal.loop-j-preserved
loop-j-preserved c = (
  begins-more (graph c.args.pairs.now) c.args.n c.loop-j.j c.loop-j.starts c.count_between.result c.args.pairs.now.mirrored (omega arith) c.requires c.loop-j.invariant.1 c.count_between.ensures.value c.loop-j.invariant.0,
  length-set _ _ _ ∙ c.loop-j.invariant.1,
)
