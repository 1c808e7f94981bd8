use Rattle.std.proofs.Common.{◌+◌, ◌*◌, ◌^◌, ◌<◌, get_or, rules}
use Rattle.std.proofs.lemmas.Bool.{both_ways, eq-eqb, eqb-true}
use Rattle.elimination.proofs.RowTests.{within-from, within-to}
use Rattle.elimination.proofs.words.word_within.Goals as goal

pub returns-clause-within : goal.returns-clause-within
returns-clause-within c e = within-from c.args.words.now c.args.a c.args.b c.args.c c.args.k c.with_own.result c.with_own.type_inv c.with_own.ensures (eqb-true _ _ e)

pub returns-clause-beyond : goal.returns-clause-beyond
returns-clause-beyond c e all =
    let word : get_or c.args.words.now (c.args.a * 8 + c.args.k) 0 < 2 ^ 64 = search rules in
    both_ways _ e (eq-eqb _ _ (within-to c.args.words.now c.args.a c.args.b c.args.c c.args.k c.with_own.result c.with_own.type_inv c.with_own.ensures word all))
