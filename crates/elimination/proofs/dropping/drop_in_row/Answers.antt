use Rattle.std.proofs.Common.{◌≡◌, true, [], length, sym, refl, ◌∙◌, rules}
use Rattle.std.proofs.lemmas.Bool.{both_ways, false≢true}
use Rattle.elimination.specs.Graphs.{Graph}
use Rattle.elimination.specs.View.{graph}
use Rattle.elimination.proofs.Drops.{looked-apart, looked-end, row_drop, row_keep}
use Rattle.elimination.proofs.MemberWalks.{end-members, turn-below, turn-member}
use Rattle.elimination.proofs.Rows.{rows-below}
use Rattle.elimination.proofs.dropping.drop_in_row.Goals as goal
use Rattle.elimination.proofs.dropping.drop_in_row.Goals.{else-not-contains-via-then-not-contains+else-is_spare, else-not-contains-via-else-not-contains}

pub loop-v-init : goal.loop-v-init
loop-v-init c =
    let l : length c.args.again.now ≡ 512 = search rules in
    (tt, tt, ((λ n r. r), (λ a b h. h), looked-apart (graph c.args.couplings.now) (graph c.args.pairs.now) c.args.u c.args.again.now [] c.requires.looked, (λ e. absurd (false≢true e)), (λ e. refl), l))

pub is_spare-requires-clause-two : goal.is_spare-requires-clause-two
is_spare-requires-clause-two c =
    turn-below c.args.pairs.now.words c.args.u c.members-v-items.result c.into_iter-v-iterator.result c.into_iter-v-iterator.ensures.into_iter_gives c.members-v-items.ensures c.loop-v.yielded c.loop-v.v-iterator _ c.loop-v.yielded_by
    c.in-Some.v c.in-Some.ensures.steps

pub drop_pair-requires-clause-two : goal.drop_pair-requires-clause-two
drop_pair-requires-clause-two c =
    turn-below c.args.pairs.now.words c.args.u c.members-v-items.result c.into_iter-v-iterator.result c.into_iter-v-iterator.ensures.into_iter_gives c.members-v-items.ensures c.loop-v.yielded c.loop-v.v-iterator _ c.loop-v.yielded_by
    c.in-Some.v c.in-Some.ensures.steps

pub loop-v-preserved-then-is_spare : goal.loop-v-preserved-then-is_spare
loop-v-preserved-then-is_spare c =
    let v = c.in-Some.v in
    let there = turn-member c.args.pairs.now.words c.args.u c.members-v-items.result c.into_iter-v-iterator.result c.into_iter-v-iterator.ensures.into_iter_gives c.members-v-items.ensures c.loop-v.yielded c.loop-v.v-iterator _ c.loop-v.yielded_by v c.in-Some.ensures.steps in (
      tt,
      tt,
      row_drop (graph c.args.couplings.now) (graph c.args.pairs.now) c.args.again.now c.args.u c.loop-v.yielded v (graph c.loop-v.pairs) (graph c.drop_pair.new.pairs) c.loop-v.again c.drop_pair.new.again c.loop-v.dropped true
          c.args.couplings.now.mirrored c.loop-v.pairs.mirrored (rows-below c.loop-v.pairs.words) c.requires.one (rows-below c.args.pairs.now.words c.args.u v there).1 c.loop-v.invariant.2
          there
          (sym c.contains.ensures ∙ c.if-not-contains.true)
          (sym c.is_spare.ensures ∙ c.if-is_spare.true)
          c.drop_pair.ensures.pairs
          c.drop_pair.ensures.marks
          refl,
    )

pub loop-v-preserved : goal.loop-v-preserved
loop-v-preserved c =
    let v = c.in-Some.v in
    let C : Graph = graph c.args.couplings.now in
    let there = turn-member c.args.pairs.now.words c.args.u c.members-v-items.result c.into_iter-v-iterator.result c.into_iter-v-iterator.ensures.into_iter_gives c.members-v-items.ensures c.loop-v.yielded c.loop-v.v-iterator _ c.loop-v.yielded_by v c.in-Some.ensures.steps in (
      tt,
      tt,
      row_keep C (graph c.args.pairs.now) c.args.again.now c.args.u c.loop-v.yielded v (graph c.loop-v.pairs) (graph c.loop-v.pairs) c.loop-v.again c.loop-v.again c.loop-v.dropped c.loop-v.dropped
          c.args.couplings.now.mirrored c.loop-v.pairs.mirrored (rows-below c.loop-v.pairs.words) c.requires.one (rows-below c.args.pairs.now.words c.args.u v there).1 c.loop-v.invariant.2
          (λ k s. elim c.else-not-contains.branch [
            | else-not-contains-via-then-not-contains+else-is_spare x ↦ both_ways x.is_spare.result x.if-is_spare.false (x.is_spare.ensures ∙ s)
            | else-not-contains-via-else-not-contains x ↦ both_ways (C c.args.u v) k (sym c.contains.ensures ∙ x.if-not-contains.false)
          ])
          refl
          refl
          refl,
    )

pub returns-clause-looked : goal.returns-clause-looked
returns-clause-looked c =
    looked-end (graph c.args.couplings.now) (graph c.loop-v.pairs) c.args.u c.loop-v.again c.loop-v.yielded (graph c.args.pairs.now) c.args.pairs.now.mirrored c.loop-v.invariant.2.1
    (end-members c.args.pairs.now.words c.args.u c.members-v-items.result c.into_iter-v-iterator.result c.into_iter-v-iterator.ensures.into_iter_gives c.members-v-items.ensures c.loop-v.yielded c.loop-v.v-iterator _ c.loop-v.yielded_by c.in-None.ensures.steps) c.loop-v.invariant.2.2
