use Rattle.std.proofs.Common.{not, ◌||◌, ◌∙◌, rules, tests}
use Rattle.std.proofs.lemmas.Iterator.Consumers.{YieldsList-from_first}
use Rattle.std.proofs.lemmas.Iterator.Search.{all_from_yields_List}
use Rattle.elimination.specs.Graphs.{Graph}
use Rattle.elimination.specs.View.{coming, graph}
use Rattle.elimination.specs.Words.{has_common_within, members_of}
use Rattle.elimination.proofs.MemberWalks.{spare-members}
use Rattle.elimination.proofs.dropping.is_spare.Goals as goal

pub returns : goal.returns
returns c =
    let G : Graph = graph c.args.pairs.now in
    all_from_yields_List (λ a. not (G c.args.v a) || has_common_within 512 G c.args.u c.args.v a) _ _ c.all.result c.all.ensures.ran
    (YieldsList-from_first (λ x. x) coming (members_of G c.args.u) c.members.ensures) (λ x b q k. search (rules, tests))
    ∙ spare-members c.args.pairs.now.words c.args.u c.args.v
