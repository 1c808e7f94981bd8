use Rattle.std.proofs.Common.{◌*◌, sym, ap, ◌∙◌}
use Rattle.std.proofs.lemmas.Result.{err_from_is_err_and}
use Rattle.network.specs.Decode.{placed_fault, end_fault}
use Rattle.network.specs.Refusals.{first_fault}
use Rattle.network.proofs.Faults.{or_else-some, or_else-past, unless-err, unless-ok}
use Rattle.network.proofs.Stages.{head-err, head_ok, body-pairs, body-order, decode-err, decode-ok}
use Rattle.network.proofs.sheets.checks.check_sheet.Goals as goal

pub returns-in_err-counts : goal.returns-in_err-counts
returns-in_err-counts c =
    let p = err_from_is_err_and c.from_residual.result c.from_residual.ensures.1 in
    let bs = c.args.sheet.now in
    rw (p.1, p.2) (record { value = decode-err bs _ (head-err bs _ c.in_err-counts.ensures.value); stands = tt })

pub returns-in_err-check_pairs : goal.returns-in_err-check_pairs
returns-in_err-check_pairs c =
    let p = err_from_is_err_and c.from_residual-in_err-check_pairs.result c.from_residual-in_err-check_pairs.ensures.1 in
    let bs = c.args.sheet.now in
    let n = c.in_ok-counts.counts.stations in
    let m = c.in_ok-counts.counts.couplings in
    let counted = c.in_ok-counts.ensures in
    let head = head_ok bs n m counted.value counted.stations counted.couplings in
    let body = body-pairs bs _ n m c.in_ok-counts.counts.bits c.new-reader.ensures.bytes c.in_ok-counts.counts.wide _ c.in_err-check_pairs.ensures.value in
    rw (p.1, p.2) (record { value = decode-err bs _ (head ∙ body); stands = tt })

pub returns-in_err-check_stations : goal.returns-in_err-check_stations
returns-in_err-check_stations c =
    let p = err_from_is_err_and c.from_residual-in_err-check_stations.result c.from_residual-in_err-check_stations.ensures.1 in
    let bs = c.args.sheet.now in
    let n = c.in_ok-counts.counts.stations in
    let m = c.in_ok-counts.counts.couplings in
    let w = c.in_ok-counts.counts.bits in
    let counted = c.in_ok-counts.ensures in
    let head = head_ok bs n m counted.value counted.stations counted.couplings in
    let body = body-order bs _ n m w c.new-reader.ensures.bytes c.in_ok-counts.counts.wide c.in_ok-check_pairs.ensures.value in
    let same = c.in_ok-check_pairs.ensures.bytes ∙ c.new-reader.ensures.bytes in
    let found = sym (ap (λ l. first_fault (placed_fault l n w (2 * m)) n) same) ∙ unless-err _ tt _ c.in_err-check_stations.ensures.value in
    rw (p.1, p.2) (record { value = decode-err bs _ (head ∙ body ∙ or_else-some _ _ _ found); stands = tt })

pub returns-in_err-check_end : goal.returns-in_err-check_end
returns-in_err-check_end c =
    let p = err_from_is_err_and c.from_residual-in_err-check_end.result c.from_residual-in_err-check_end.ensures.1 in
    let bs = c.args.sheet.now in
    let n = c.in_ok-counts.counts.stations in
    let m = c.in_ok-counts.counts.couplings in
    let w = c.in_ok-counts.counts.bits in
    let counted = c.in_ok-counts.ensures in
    let head = head_ok bs n m counted.value counted.stations counted.couplings in
    let body = body-order bs _ n m w c.new-reader.ensures.bytes c.in_ok-counts.counts.wide c.in_ok-check_pairs.ensures.value in
    let same = c.in_ok-check_pairs.ensures.bytes ∙ c.new-reader.ensures.bytes in
    let none = sym (ap (λ l. first_fault (placed_fault l n w (2 * m)) n) same) ∙ (unless-ok _ tt tt c.in_ok-check_stations.ensures.value).0 in
    let found = ap (end_fault bs) (sym c.end.ensures.value) ∙ unless-err _ tt _ c.in_err-check_end.ensures in
    rw (p.1, p.2) (record { value = decode-err bs _ (head ∙ body ∙ or_else-past _ _ none ∙ found); stands = tt })

pub returns : goal.returns
returns c =
    let bs = c.args.sheet.now in
    let n = c.in_ok-counts.counts.stations in
    let m = c.in_ok-counts.counts.couplings in
    let w = c.in_ok-counts.counts.bits in
    let counted = c.in_ok-counts.ensures in
    let head = head_ok bs n m counted.value counted.stations counted.couplings in
    let body = body-order bs _ n m w c.new-reader.ensures.bytes c.in_ok-counts.counts.wide c.in_ok-check_pairs.ensures.value in
    let same = c.in_ok-check_pairs.ensures.bytes ∙ c.new-reader.ensures.bytes in
    let none = sym (ap (λ l. first_fault (placed_fault l n w (2 * m)) n) same) ∙ (unless-ok _ tt tt c.in_ok-check_stations.ensures.value).0 in
    let ended = ap (end_fault bs) (sym c.end.ensures.value) ∙ (unless-ok _ tt tt c.in_ok-check_end.ensures).0 in
    let whole = decode-ok bs n m counted.stations counted.couplings (head ∙ body ∙ or_else-past _ _ none ∙ ended) in
    record { value = whole.0; stands = whole.1 }
