use Rattle.std.proofs.Common.{rules}
use Rattle.elimination.proofs.RowTests.{word-none, word-first}
use Rattle.elimination.proofs.words.first_of_word.Goals as goal

pub returns-then-word-eq0 : goal.returns-then-word-eq0
returns-then-word-eq0 c = record { none = λ e. word-none c.args.row.now c.args.from c.args.k _ c.word_from-word.ensures c.if-word-eq0.true; first = tt }

pub returns : goal.returns
returns c = record { none = λ e. absurd (search rules); first = word-first c.args.row.now c.args.from c.args.k _ c.word_from-word.ensures c.word_from-word.type_inv c.if-word-eq0.false }
