use Rattle.std.proofs.Common.{arith}
use Rattle.elimination.proofs.RowTests.{own-here, own-other}
use Rattle.elimination.proofs.words.with_own.Goals as goal

pub returns-then-k-c : goal.returns-then-k-c
returns-then-k-c c j hj = own-here c.args.words.now c.args.c c.args.k j (omega arith) hj

pub returns-else-k-c : goal.returns-else-k-c
returns-else-k-c c j hj = own-other c.args.words.now c.args.c c.args.k j (λ e. omega arith) hj
