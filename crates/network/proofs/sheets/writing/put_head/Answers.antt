use Rattle.std.proofs.Common.{arith}
use Rattle.network.proofs.Writes.{length-head_bits, puts-field, puts-head}
use Rattle.network.proofs.sheets.writing.put_head.Goals as goal

pub put-requires : goal.put-requires
put-requires c =
    let long = length-head_bits c.args.counts.stations c.args.counts.couplings in
    (omega arith, (omega arith, (omega arith, omega arith)))

pub put-requires-2 : goal.put-requires-2
put-requires-2 c =
    let long = length-head_bits c.args.counts.stations c.args.counts.couplings in
    (omega arith, (omega arith, (omega arith, omega arith)))

pub put-requires-3 : goal.put-requires-3
put-requires-3 c =
    let long = length-head_bits c.args.counts.stations c.args.counts.couplings in
    (omega arith, (omega arith, (omega arith, omega arith)))

pub returns : goal.returns
returns c =
    puts-head c.args.counts.stations c.args.counts.couplings
    (puts-field c.args.writer.now c.put.new.self c.put.ensures.lender c.put.ensures.place c.put.ensures.size c.put.ensures.bits)
    (puts-field c.put.new.self c.put-2.new.self c.put-2.ensures.lender c.put-2.ensures.place c.put-2.ensures.size c.put-2.ensures.bits)
    (puts-field c.put-2.new.self c.put-3.new.self c.put-3.ensures.lender c.put-3.ensures.place c.put-3.ensures.size c.put-3.ensures.bits)
