use Rattle.std.proofs.Common.{[], ◌∷◌, arith}
use Rattle.network.proofs.Writes.{length-pair_bits, puts-field, puts-pair}
use Rattle.network.proofs.sheets.writing.put_pair.Goals as goal

pub put-requires : goal.put-requires
put-requires c =
    let long = length-pair_bits c.args.counts.bits ((c.args.larger, c.args.smaller) ∷ []) in
    (omega arith, (omega arith, (omega arith, c.requires.fit.0)))

pub put-requires-2 : goal.put-requires-2
put-requires-2 c =
    let long = length-pair_bits c.args.counts.bits ((c.args.larger, c.args.smaller) ∷ []) in
    (omega arith, (omega arith, (omega arith, c.requires.fit.1)))

pub returns : goal.returns
returns c =
    puts-pair c.args.counts.bits c.args.larger c.args.smaller
    (puts-field c.args.writer.now c.put.new.self c.put.ensures.lender c.put.ensures.place c.put.ensures.size c.put.ensures.bits)
    (puts-field c.put.new.self c.put-2.new.self c.put-2.ensures.lender c.put-2.ensures.place c.put-2.ensures.size c.put-2.ensures.bits)
