use Rattle.elimination.proofs.Arrangements.{minimal-by-test}
use Rattle.elimination.proofs.theory.minimal_by_test.Goals as goal

pub returns : goal.returns
returns c = minimal-by-test
