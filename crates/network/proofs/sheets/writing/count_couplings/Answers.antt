use Rattle.std.proofs.Common.{◌≡◌, ℕ, ◌<◌, ◌^◌, length, ap, ◌∙◌, arith, rules}
use Rattle.std.specs.List.{range_with_len, sum_by}
use Rattle.std.proofs.lemmas.Iterator.{YieldsList-from_map, YieldsList-from_range}
use Rattle.std.proofs.lemmas.Iterator.Consumers.{fits_by_from_yields_list, sum_by_from_yields_List}
use Rattle.network.proofs.Counts.{pairs-few, sum-rows}
use Rattle.network.specs.Sheets.{row_to, pairs_to}
use Rattle.network.proofs.sheets.writing.count_couplings.Goals as goal

pub sum-requires-clause-fits : goal.sum-requires-clause-fits
sum-requires-clause-fits g c =
    let net = g.N.Network.meaning c.args.network.now in
    let few = (g.N.Network.lawful c.args.network.now).few in
    let n = c.size-n.result in
    let h : ℕ → ℕ = λ a. length (row_to net.coupled a a) in
    let bound : sum_by h (range_with_len 0 n) < 2 ^ 32 = omega (arith, sum-rows net.coupled n, pairs-few net.coupled n (omega (arith, c.size-n.ensures, few))) in
    fits_by_from_yields_list h (range_with_len 0 n) c.map.result _ (YieldsList-from_map _ h (YieldsList-from_range 0 n n (cc) (omega arith)) c.map.ensures.closure (λ x r q k. search rules)) bound

pub returns : goal.returns
returns g c =
    let net = g.N.Network.meaning c.args.network.now in
    let few = (g.N.Network.lawful c.args.network.now).few in
    let n = c.size-n.result in
    let h : ℕ → ℕ = λ a. length (row_to net.coupled a a) in
    let value : c.sum.result ≡ length (pairs_to net.coupled net.size) =
    sum_by_from_yields_List h (range_with_len 0 n) c.map.result c.sum.result c.sum.ensures.ran (YieldsList-from_map _ h (YieldsList-from_range 0 n n (cc) (omega arith)) c.map.ensures.closure (λ x r q k. search rules))
    ∙ sum-rows net.coupled n ∙ ap (λ (x : ℕ). length (pairs_to net.coupled x)) c.size-n.ensures in
    record { value = value; small = omega (arith, value, pairs-few net.coupled net.size few) }
