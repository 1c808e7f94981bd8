use Rattle.std.proofs.Common.{◌+◌, ◌*◌, ◌^◌, ◌<◌, get_or, rules}
use Rattle.elimination.proofs.RowTests.{count-word}
use Rattle.elimination.proofs.words.count_word.Goals as goal

pub returns : goal.returns
returns c =
    let word : get_or c.args.words.now (c.args.a * 8 + c.args.k) 0 < 2 ^ 64 = search rules in
    count-word c.args.words.now c.args.a c.args.low c.args.high c.args.k c.below.result c.below-2.result c.requires.one c.requires.word word c.below-2.type_inv c.below.ensures c.below-2.ensures
