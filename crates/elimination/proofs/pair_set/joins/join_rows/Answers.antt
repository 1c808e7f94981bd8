use Rattle.std.proofs.Common.{ℕ, Bool, ap, ◌∙◌}
use Rattle.elimination.specs.Graphs.{Graph}
use Rattle.elimination.specs.Words.{members_from, row_taken, rows, struck}
use Rattle.elimination.proofs.MemberWalks.{end-members, turn-below, turn-member}
use Rattle.elimination.proofs.Walks.{joining-none, joining-more, joining-all}
use Rattle.elimination.proofs.pair_set.joins.join_rows.Goals as goal

pub join_row-requires-clause-one : goal.join_row-requires-clause-one
join_row-requires-clause-one c =
    turn-below c.args.words.now c.args.v c.of-a-items.result c.into_iter-a-iterator.result c.into_iter-a-iterator.ensures.into_iter_gives (c.of-a-items.ensures ∙ ap (λ (p : ℕ → Bool). members_from p 0) c.row_of-row.ensures) c.loop-a.yielded c.loop-a.a-iterator _ c.loop-a.yielded_by
    c.in-Some.a c.in-Some.ensures.steps

pub loop-a-init : goal.loop-a-init
loop-a-init c = (tt, tt, joining-none (rows c.args.words.now) c.args.v)

pub loop-a-preserved : goal.loop-a-preserved
loop-a-preserved c = (
  tt,
  tt,
  c.join_row.ensures ∙ ap (λ (G : Graph). struck (row_taken G c.in-Some.a c.args.v) c.in-Some.a c.in-Some.a) c.loop-a.invariant.2
      ∙ joining-more (rows c.args.words.now) c.args.v c.in-Some.a c.loop-a.yielded c.requires.irreflexive
      (turn-member c.args.words.now c.args.v c.of-a-items.result c.into_iter-a-iterator.result c.into_iter-a-iterator.ensures.into_iter_gives (c.of-a-items.ensures ∙ ap (λ (p : ℕ → Bool). members_from p 0) c.row_of-row.ensures) c.loop-a.yielded c.loop-a.a-iterator _ c.loop-a.yielded_by
      c.in-Some.a c.in-Some.ensures.steps),
)

pub returns : goal.returns
returns c =
    c.loop-a.invariant.2
    ∙ joining-all (rows c.args.words.now) c.args.v c.loop-a.yielded
    (end-members c.args.words.now c.args.v c.of-a-items.result c.into_iter-a-iterator.result c.into_iter-a-iterator.ensures.into_iter_gives (c.of-a-items.ensures ∙ ap (λ (p : ℕ → Bool). members_from p 0) c.row_of-row.ensures) c.loop-a.yielded c.loop-a.a-iterator _ c.loop-a.yielded_by c.in-None.ensures.steps)
