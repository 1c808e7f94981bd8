use Rattle.std.proofs.Common.{arith}
use Rattle.std.proofs.lemmas.Bool.Decides.{nat_tests}
use Rattle.network.specs.Decode.{header_fault}
use Rattle.network.proofs.Fields.{header-fields}
use Rattle.network.proofs.sheets.Header.read.Goals as goal

pub returns-in_default-clause-value : goal.returns-in_default-clause-value
unfolding header_fault
returns-in_default-clause-value c = grind (arith, nat_tests)

pub returns-then-word-ne-KIND-clause-value : goal.returns-then-word-ne-KIND-clause-value
unfolding header_fault
returns-then-word-ne-KIND-clause-value c =
    let is = header-fields c.args.sheet.now c.from_be_bytes-word.result (omega arith) (omega arith) (omega arith) (omega arith) (omega (arith, c.from_be_bytes-word.ensures)) in
    grind (arith, nat_tests)

pub returns-then-stations-lt1-clause-value : goal.returns-then-stations-lt1-clause-value
unfolding header_fault
returns-then-stations-lt1-clause-value c =
    let is = header-fields c.args.sheet.now c.from_be_bytes-word.result (omega arith) (omega arith) (omega arith) (omega arith) (omega (arith, c.from_be_bytes-word.ensures)) in
    let one = c.then-stations-lt1.either in
    grind (arith, nat_tests)

pub returns-then-couplings-stations-clause-value : goal.returns-then-couplings-stations-clause-value
unfolding header_fault
returns-then-couplings-stations-clause-value c =
    let is = header-fields c.args.sheet.now c.from_be_bytes-word.result (omega arith) (omega arith) (omega arith) (omega arith) (omega (arith, c.from_be_bytes-word.ensures)) in
    grind (arith, nat_tests)

pub returns-clause-value : goal.returns-clause-value
unfolding header_fault
returns-clause-value c =
    let is = header-fields c.args.sheet.now c.from_be_bytes-word.result (omega arith) (omega arith) (omega arith) (omega arith) (omega (arith, c.from_be_bytes-word.ensures)) in
    grind (arith, nat_tests)

pub returns-clause-stations : goal.returns-clause-stations
returns-clause-stations c =
    let is = header-fields c.args.sheet.now c.from_be_bytes-word.result (omega arith) (omega arith) (omega arith) (omega arith) (omega (arith, c.from_be_bytes-word.ensures)) in
    omega (arith, is.1, c.new.ensures.stations)

pub returns-clause-couplings : goal.returns-clause-couplings
returns-clause-couplings c =
    let is = header-fields c.args.sheet.now c.from_be_bytes-word.result (omega arith) (omega arith) (omega arith) (omega arith) (omega (arith, c.from_be_bytes-word.ensures)) in
    omega (arith, is.2, c.new.ensures.couplings)
