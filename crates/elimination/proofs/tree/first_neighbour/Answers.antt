use Rattle.std.proofs.Common.{◌<◌, arith, rules}
use Rattle.std.proofs.lemmas.Iterator.{YieldsList-from_slice}
use Rattle.std.proofs.lemmas.Iterator.Adapters.{serves_from_places}
use Rattle.std.proofs.lemmas.Iterator.Consumers.{YieldsList-from_copied}
use Rattle.std.proofs.lemmas.List.{get_or_default}
use Rattle.elimination.proofs.tree.first_neighbour.Goals as goal

pub find-requires-clause-callable : goal.find-requires-clause-callable
find-requires-clause-callable c =
    let all = c.args.among.now in
    serves_from_places (YieldsList-from_copied (YieldsList-from_slice all (search rules)))
    (λ x q call. search rules)
    (λ x k h e.
    let small : x < 512 = omega (arith, e, get_or_default all k x 0 h, c.requires.known k h) in
    search rules)
