use Rattle.std.proofs.Common.{◌≡◌, ℕ, ◌<◌, ◌^◌, Bool, cond, length, ◌∙◌, arith, rules}
use Rattle.std.specs.List.{range_with_len, sum_by}
use Rattle.std.proofs.lemmas.Iterator.{YieldsList-from_map, YieldsList-from_range}
use Rattle.std.proofs.lemmas.Iterator.Consumers.{fits_by_from_yields_list, sum_by_from_yields_List}
use Rattle.network.proofs.Counts.{sum-row}
use Rattle.network.proofs.SheetPairs.{row-short}
use Rattle.network.specs.Sheets.{row_to}
use Rattle.network.proofs.sheets.writing.count_row.Goals as goal

pub sum-requires-clause-fits : goal.sum-requires-clause-fits
sum-requires-clause-fits g c =
    let C = (g.N.Network.meaning c.args.network.now).coupled in
    let a = c.args.station in
    let h : ℕ → ℕ = λ b. cond (C a b) 1 0 in
    let bound : sum_by h (range_with_len 0 a) < 2 ^ 32 = omega (arith, sum-row C a a, row-short C a a) in
    fits_by_from_yields_list h (range_with_len 0 a) c.map.result _ (YieldsList-from_map _ h (YieldsList-from_range 0 a a (cc) (omega arith)) c.map.ensures.closure (λ x r q k. search rules)) bound

pub returns : goal.returns
returns g c =
    let C = (g.N.Network.meaning c.args.network.now).coupled in
    let a = c.args.station in
    let h : ℕ → ℕ = λ b. cond (C a b) 1 0 in
    let value : c.sum.result ≡ length (row_to C a a) =
    sum_by_from_yields_List h (range_with_len 0 a) c.map.result c.sum.result c.sum.ensures.ran (YieldsList-from_map _ h (YieldsList-from_range 0 a a (cc) (omega arith)) c.map.ensures.closure (λ x r q k. search rules))
    ∙ sum-row C a a in
    record { value = value; small = omega (arith, value, row-short C a a) }
