use Rattle.std.proofs.Common.{◌≡◌, ℕ, suc, ◌*◌, ◌<◌, ◌≤◌, length, get_or, take, sym, ap, ◌∙◌, subst, mul-le-mul_left, mul-suc, arith}
use Rattle.std.proofs.lemmas.List.{take_more, length-take-le}
use Rattle.network.proofs.Standing.{length-spread}
use Rattle.network.proofs.Writes.{puts_none, puts-field, puts-station, spread_none}
use Rattle.network.specs.Sheets.{spread}
use Rattle.network.specs.Writing.{Puts}
use Rattle.network.proofs.sheets.writing.put_list.Goals as goal

pub loop-station-init : goal.loop-station-init
loop-station-init c = subst (Puts _ _) (sym (spread_none c.args.counts.bits)) (puts_none c.args.writer.now)

pub put-requires : goal.put-requires
put-requires c =
    let w = c.args.counts.bits in
    let xs = c.args.order.now in
    let i = c.loop-station.station-index in
    let lt : i < length xs = omega arith in
    let b : w * suc i ≤ w * length xs = mul-le-mul_left w lt in
    let le : i ≤ length xs = omega arith in
    let here : length (spread w (take i xs)) ≡ w * i = length-spread w (take i xs) ∙ ap (λ (x : ℕ). w * x) (length-take-le i xs le) in (
      omega arith,
      (
        omega (arith, here, mul-suc w i, length-spread w xs, c.loop-station.invariant.place, c.loop-station.invariant.size, c.requires.room.0),
        (omega (arith, c.loop-station.invariant.size), c.requires.fit i lt),
      ),
    )

pub loop-station-preserved : goal.loop-station-preserved
loop-station-preserved c =
    let w = c.args.counts.bits in
    let xs = c.args.order.now in
    let i = c.loop-station.station-index in
    let lt : i < length xs = omega arith in
    subst (λ us. Puts c.args.writer.now c.put.new.self (spread w us)) (sym (take_more xs i 0 lt))
    (puts-station w (take i xs) (get_or xs i 0) c.loop-station.invariant
    (puts-field c.loop-station.writer c.put.new.self c.put.ensures.lender c.put.ensures.place c.put.ensures.size c.put.ensures.bits))
