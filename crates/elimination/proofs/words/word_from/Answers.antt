use Rattle.std.proofs.Common.{arith}
use Rattle.elimination.proofs.RowTests.{word-from, word-past}
use Rattle.elimination.proofs.words.word_from.Goals as goal

pub returns-then-k-from : goal.returns-then-k-from
returns-then-k-from c = word-from c.args.row.now c.args.from c.args.k c.below.result c.requires.word c.below.type_inv c.below.ensures

pub returns-else-k-from : goal.returns-else-k-from
returns-else-k-from c = word-past c.args.row.now c.args.from c.args.k c.requires.word (omega arith)
