use Rattle.elimination.proofs.Eliminations.{pairs-of}
use Rattle.elimination.proofs.engine.Elimination.pairs.Goals as goal

pub returns-clause-filled : goal.returns-clause-filled
returns-clause-filled c = pairs-of c.args.self.now
