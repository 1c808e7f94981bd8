use Rattle.std.proofs.Common.{arith}
use Rattle.std.proofs.lemmas.Bool.Decides.{nat_tests}
use Rattle.network.specs.Decode.{end_fault}
use Rattle.network.proofs.sheets.checks.check_end.Goals.{then-sheet-whole-via-then-sheet-whole, then-sheet-whole-via-else-sheet-whole+then-field_of-ne0}
use Rattle.network.proofs.sheets.checks.check_end.Goals as goal

pub returns-then-sheet-whole : goal.returns-then-sheet-whole
unfolding end_fault
returns-then-sheet-whole c =
    elim c.then-sheet-whole.branch [
      | then-sheet-whole-via-then-sheet-whole w ↦ grind (arith, nat_tests)
      | then-sheet-whole-via-else-sheet-whole+then-field_of-ne0 w ↦ grind (arith, nat_tests)
    ]

pub returns : goal.returns
unfolding end_fault
returns c = grind (arith, nat_tests)
