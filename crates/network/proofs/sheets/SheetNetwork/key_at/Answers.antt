use Rattle.std.proofs.Common.{◌≡◌, ℕ, ◌+◌, ◌*◌, ◌^◌, ◌≤◌, sym, ap, ◌∙◌, arith, pow_mono}
use Rattle.network.specs.Fields.{field}
use Rattle.network.proofs.Fields.{field_lt}
use Rattle.network.specs.Decode.{value_at, place_for}
use Rattle.network.specs.Parts.{pair_key}
use Rattle.network.proofs.Places.{place-next}
use Rattle.network.proofs.sheets.SheetNetwork.key_at.Goals as goal

pub overflow_mul-result : goal.overflow_mul-result
overflow_mul-result c =
    let s = c.args.self.now in
    let b : 2 ^ s.counts.bits ≤ 2 ^ 9 = pow_mono s.counts.narrow in
    omega (arith, field_lt s.bytes.now c.place-at.result s.counts.bits)

pub overflow_add-result : goal.overflow_add-result
overflow_add-result c =
    let s = c.args.self.now in
    let b : 2 ^ s.counts.bits ≤ 2 ^ 9 = pow_mono s.counts.narrow in
    omega (arith, field_lt s.bytes.now c.place-at.result s.counts.bits, field_lt s.bytes.now (c.place-at.result + s.counts.bits) s.counts.bits)

pub returns : goal.returns
unfolding pair_key value_at
returns c =
    let bs = c.args.self.now.bytes.now in
    let w = c.args.self.now.counts.bits in
    let k = c.args.k in
    let at = c.place-at.ensures.value in
    let next : c.place-at.result + w ≡ place_for w (2 * k + 1) = ap (λ (x : ℕ). x + w) at ∙ sym (place-next w (2 * k)) in
    omega (arith, ap (λ (x : ℕ). field bs x w) at, ap (λ (x : ℕ). field bs x w) next)
