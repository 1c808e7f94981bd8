use Rattle.std.proofs.Common.{◌≡◌, ℕ, ◌+◌, ◌*◌, ◌^◌, ◌<◌, ◌≤◌, List, [], ◌∷◌, ◌++◌, map, length, drop, take, sym, ap, ◌∙◌, ap₂, arith, pow_mono, rules}
use Rattle.std.specs.List.{range_with_len}
use Rattle.std.proofs.lemmas.List.{take_all, take_more_set}
use Rattle.std.proofs.lemmas.List.FromFn.{map-range_with_len_more}
use Rattle.network.proofs.Fields.{field_lt}
use Rattle.network.specs.Fields.{field}
use Rattle.network.specs.Decode.{place_for, value_at, order_of}
use Rattle.network.proofs.sheets.reading.put_order.Goals as goal

pub overflow_cast-station : goal.overflow_cast-station
overflow_cast-station c =
    let w = c.args.counts.bits in
    let le : w ≤ 9 = c.args.counts.narrow in
    let b : 2 ^ w ≤ 2 ^ 9 = pow_mono le in
    omega (arith, field_lt c.args.sheet.now c.place.result w)

pub loop-k-preserved : goal.loop-k-preserved
unfolding value_at
loop-k-preserved c =
    let bs = c.args.sheet.now in
    let w = c.args.counts.bits in
    let k = c.loop-k.k in
    let xs = c.loop-k.front in
    let v = c.field_of.result in
    let f : ℕ → ℕ = λ i. value_at bs w (2 * c.args.counts.couplings + i) in
    let lt : k < length xs = search rules in
    let is : v ≡ f k = c.field_of.ensures ∙ ap (λ (x : ℕ). field bs x w) (c.place.ensures.value ∙ ap (λ (x : ℕ). place_for w (x + k)) c.first_of_order-first.ensures) in
    take_more_set xs k v lt ∙ ap₂ (λ (x : List ℕ) (y : ℕ). x ++ y ∷ []) c.loop-k.invariant is ∙ sym (map-range_with_len_more f 0 k k (omega arith))

pub returns : goal.returns
unfolding order_of
returns c =
    let n = c.args.counts.stations in
    let xs = c.loop-k.front in
    let long : length xs ≡ n = search rules in
    let e : c.loop-k.k ≡ n = search rules in
    let F : ℕ → ℕ → ℕ = λ w i. value_at c.args.sheet.now w (2 * c.args.counts.couplings + i) in
    ap (λ (l : List ℕ). l ++ drop n c.args.order.now)
    (sym (take_all n xs (omega arith))
    ∙ ap (λ (x : ℕ). take x xs) (sym e)
    ∙ c.loop-k.invariant
    ∙ ap₂ (λ (w x : ℕ). map (F w) (range_with_len 0 x)) c.args.counts.wide e)
