use Rattle.std.proofs.Common.{◌≡◌, ℕ, ◌<◌, ◌^◌, refl, ◌∙◌, arith, rules}
use Rattle.std.specs.List.{range_with_len, sum_by}
use Rattle.std.proofs.lemmas.Iterator.{YieldsList-from_map, YieldsList-from_range}
use Rattle.std.proofs.lemmas.Iterator.Consumers.{fits_by_from_yields_list, sum_by_from_yields_List}
use Rattle.network.specs.Bits.{count_to}
use Rattle.network.proofs.Bits.{count_to-le}
use Rattle.elimination.specs.Words.{between, rows, word_count}
use Rattle.elimination.proofs.RowTests.{sum-words}
use Rattle.elimination.proofs.words.count_between.Goals as goal

pub sum-requires-clause-fits : goal.sum-requires-clause-fits
sum-requires-clause-fits c =
    let h : ℕ → ℕ = word_count (rows c.args.words.now) c.args.a c.args.low c.args.high in
    let bound : sum_by h (range_with_len 0 8) < 2 ^ 32 = omega (arith, sum-words (rows c.args.words.now) c.args.a c.args.low c.args.high, count_to-le (between (rows c.args.words.now) c.args.a c.args.low c.args.high) 512) in
    fits_by_from_yields_list h (range_with_len 0 8) c.map.result _ (YieldsList-from_map _ h (YieldsList-from_range 0 8 8 (cc) refl) c.map.ensures.closure (λ x r q k. search rules)) bound

pub returns : goal.returns
returns c =
    let h : ℕ → ℕ = word_count (rows c.args.words.now) c.args.a c.args.low c.args.high in
    let value : c.sum.result ≡ count_to (between (rows c.args.words.now) c.args.a c.args.low c.args.high) 512 =
    sum_by_from_yields_List h (range_with_len 0 8) c.map.result c.sum.result c.sum.ensures.ran (YieldsList-from_map _ h (YieldsList-from_range 0 8 8 (cc) refl) c.map.ensures.closure (λ x r q k. search rules))
    ∙ sum-words (rows c.args.words.now) c.args.a c.args.low c.args.high in
    record { value = value; small = omega (arith, count_to-le (between (rows c.args.words.now) c.args.a c.args.low c.args.high) 512) }
