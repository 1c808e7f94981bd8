use Rattle.std.proofs.Common.{◌∙◌}
use Rattle.network.specs.Lists.{named_in}
use Rattle.network.specs.ListLaws.{no-fault}
use Rattle.network.proofs.ListRows.{list-rises, part-searched}
use Rattle.network.proofs.name_lists.RisingLists.is_named.Goals as goal

pub returns : goal.returns
unfolding named_in
returns c =
    let lists = c.args.self.now.lists in
    c.is_ok.ensures.value
    ∙ rw (← c.part_of.ensures.low, ← c.part_of.ensures.high)
    (part-searched lists.names.now c.part_of.result.start c.part_of.result.end c.args.b c.binary_search.result c.part_of.ensures.order c.part_of.ensures.within
    (λ j k. rw (c.part_of.ensures.low, c.part_of.ensures.high) (list-rises lists.starts.now lists.names.now (no-fault _ c.args.self.now.rising) c.args.a j k c.requires)) c.binary_search.ensures.position)
