use Rattle.std.proofs.Common.{◌≡◌, ℕ, ◌<◌, ◌^◌, ◌∙◌, arith, rules}
use Rattle.std.specs.List.{range_with_len, sum_by}
use Rattle.std.proofs.lemmas.Iterator.{YieldsList-from_map, YieldsList-from_range}
use Rattle.std.proofs.lemmas.Iterator.Consumers.{fits_by_from_yields_list, sum_by_from_yields_List}
use Rattle.network.specs.Bits.{count_to}
use Rattle.elimination.specs.Elimination.{pairs_below}
use Rattle.elimination.specs.Words.{between, rows}
use Rattle.elimination.proofs.RowTests.{sum-rows}
use Rattle.elimination.proofs.Walks.{pairs-le}
use Rattle.elimination.proofs.words.count_rows.Goals as goal

pub sum-requires-clause-fits : goal.sum-requires-clause-fits
sum-requires-clause-fits c =
    let n = c.args.n in
    let h : ℕ → ℕ = λ a. count_to (between (rows c.args.words.now) a 0 a) 512 in
    let bound : sum_by h (range_with_len 0 n) < 2 ^ 32 = omega (arith, sum-rows (rows c.args.words.now) n c.requires, pairs-le n (rows c.args.words.now) c.requires, c.requires) in
    fits_by_from_yields_list h (range_with_len 0 n) c.map.result _ (YieldsList-from_map _ h (YieldsList-from_range 0 n n (cc) (omega arith)) c.map.ensures.closure (λ x r q k. search rules)) bound

pub returns : goal.returns
returns c =
    let n = c.args.n in
    let h : ℕ → ℕ = λ a. count_to (between (rows c.args.words.now) a 0 a) 512 in
    let value : c.sum.result ≡ pairs_below n (rows c.args.words.now) =
    sum_by_from_yields_List h (range_with_len 0 n) c.map.result c.sum.result c.sum.ensures.ran (YieldsList-from_map _ h (YieldsList-from_range 0 n n (cc) (omega arith)) c.map.ensures.closure (λ x r q k. search rules))
    ∙ sum-rows (rows c.args.words.now) n c.requires in
    record { value = value; small = omega (arith, pairs-le n (rows c.args.words.now) c.requires) }
