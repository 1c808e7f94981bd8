use Rattle.std.proofs.Common.{arith, rules}
use Rattle.std.proofs.lemmas.Bool.Decides.{nat_tests}
use Rattle.std.proofs.lemmas.Result.{err_from_is_err_and}
use Rattle.network.specs.Parts.{pair_in}
use Rattle.network.proofs.Takes.{cut, second-cut, both-took, both-passed}
use Rattle.network.proofs.sheets.checks.take_pair.Goals as goal

pub returns-in_err-larger : goal.returns-in_err-larger
unfolding pair_in
returns-in_err-larger c =
    let p = err_from_is_err_and c.from_residual.result c.from_residual.ensures.1 in
    let first = cut c.args.reader.now.bytes.now c.args.reader.now.at c.args.counts.bits _ c.in_err-larger.ensures.value in
    rw (p.1, p.2) (record { value = grind (arith, nat_tests); place = tt; bytes = search rules })

pub returns-in_err-smaller : goal.returns-in_err-smaller
unfolding pair_in
returns-in_err-smaller c =
    let p = err_from_is_err_and c.from_residual-in_err-smaller.result c.from_residual-in_err-smaller.ensures.1 in
    let was = c.in_ok-larger.ensures in
    let both = second-cut c.args.reader.now.bytes.now _ c.args.reader.now.at _ c.args.counts.bits _ _ was.value was.place was.bytes c.in_err-smaller.ensures.value in
    rw (p.1, p.2) (record { value = grind (arith, nat_tests); place = tt; bytes = search rules })

pub returns-then-larger-counts : goal.returns-then-larger-counts
unfolding pair_in
returns-then-larger-counts c =
    let was = c.in_ok-larger.ensures in
    let both = both-took c.args.reader.now.bytes.now _ c.args.reader.now.at _ c.args.counts.bits _ _ was.value was.place was.bytes c.in_ok-smaller.ensures.value in
    let one = c.then-larger-counts.either in
    record { value = grind (arith, nat_tests); place = tt; bytes = search rules }

pub returns : goal.returns
unfolding pair_in
returns c =
    let was = c.in_ok-larger.ensures in
    let then = c.in_ok-smaller.ensures in
    let both = both-took c.args.reader.now.bytes.now _ c.args.reader.now.at _ c.args.counts.bits _ _ was.value was.place was.bytes then.value in
    record {
      value = grind (arith, nat_tests);
      place = both-passed _ _ c.args.reader.now.at _ _ c.args.counts.bits _ _ was.value was.place then.value then.place;
      bytes = search rules;
    }
