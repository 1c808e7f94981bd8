use Rattle.std.proofs.Common.{ap, ◌∙◌}
use Rattle.elimination.specs.Graphs.{Graph, including}
use Rattle.elimination.specs.View.{graph}
use Rattle.elimination.proofs.MemberWalks.{end-members, turn-below}
use Rattle.elimination.proofs.Walks.{keeping-none, keeping-more, keeping-all}
use Rattle.elimination.proofs.filling.keep_pairs.Goals as goal

pub loop-a-init : goal.loop-a-init
loop-a-init c = (tt, tt, keeping-none (graph c.args.gathered.now) c.args.v)

pub insert-requires-clause-two : goal.insert-requires-clause-two
insert-requires-clause-two c =
    turn-below c.args.work.now.words c.args.v c.members-a-items.result c.into_iter-a-iterator.result c.into_iter-a-iterator.ensures.into_iter_gives c.members-a-items.ensures c.loop-a.yielded c.loop-a.a-iterator _ c.loop-a.yielded_by
    c.in-Some.a c.in-Some.ensures.steps

pub loop-a-preserved : goal.loop-a-preserved
loop-a-preserved c = (
  tt,
  tt,
  c.insert.ensures ∙ ap (λ (G : Graph). including G c.args.v c.in-Some.a) c.loop-a.invariant.2 ∙ keeping-more (graph c.args.gathered.now) c.args.v c.in-Some.a c.loop-a.yielded,
)

pub returns : goal.returns
returns c =
    c.loop-a.invariant.2
    ∙ keeping-all (graph c.args.gathered.now) (graph c.args.work.now) c.args.v c.loop-a.yielded c.args.work.now.mirrored
    (end-members c.args.work.now.words c.args.v c.members-a-items.result c.into_iter-a-iterator.result c.into_iter-a-iterator.ensures.into_iter_gives c.members-a-items.ensures c.loop-a.yielded c.loop-a.a-iterator _ c.loop-a.yielded_by c.in-None.ensures.steps)
