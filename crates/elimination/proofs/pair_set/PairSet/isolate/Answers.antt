use Rattle.std.proofs.Common.{ap, ◌∙◌}
use Rattle.elimination.specs.Graphs.{Graph, without}
use Rattle.elimination.specs.View.{graph}
use Rattle.elimination.proofs.MemberWalks.{end-members, turn-below}
use Rattle.elimination.proofs.Walks.{cut-none, cut-more, cut-all}
use Rattle.elimination.proofs.pair_set.PairSet.isolate.Goals as goal

pub loop-a-init : goal.loop-a-init
loop-a-init c = (tt, tt, cut-none (graph c.args.self.now) c.args.v)

pub remove-requires-clause-two : goal.remove-requires-clause-two
remove-requires-clause-two c =
    turn-below c.args.self.now.words c.args.v c.members-a-items.result c.into_iter-a-iterator.result c.into_iter-a-iterator.ensures.into_iter_gives c.members-a-items.ensures c.loop-a.yielded c.loop-a.a-iterator _ c.loop-a.yielded_by
    c.in-Some.a c.in-Some.ensures.steps

pub loop-a-preserved : goal.loop-a-preserved
loop-a-preserved c = (
  tt,
  tt,
  c.remove.ensures ∙ ap (λ (G : Graph). without G c.args.v c.in-Some.a) c.loop-a.invariant.2 ∙ cut-more (graph c.args.self.now) c.args.v c.in-Some.a c.loop-a.yielded,
)

pub returns : goal.returns
returns c =
    c.loop-a.invariant.2
    ∙ cut-all (graph c.args.self.now) c.args.v c.loop-a.yielded c.args.self.now.mirrored
    (end-members c.args.self.now.words c.args.v c.members-a-items.result c.into_iter-a-iterator.result c.into_iter-a-iterator.ensures.into_iter_gives c.members-a-items.ensures c.loop-a.yielded c.loop-a.a-iterator _ c.loop-a.yielded_by c.in-None.ensures.steps)
