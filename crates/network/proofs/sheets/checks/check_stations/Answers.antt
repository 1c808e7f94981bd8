use Rattle.std.proofs.Common.{◌≡◌, ℕ, ◌+◌, ◌*◌, ◌<◌, ◌≤◌, true, ltb, None, sym, refl, ap, ◌∙◌, ⊎_elim, mul-le-mul_right, arith, rules}
use Rattle.std.proofs.lemmas.Bool.{cases_lt, ltb-true, and_parts}
use Rattle.network.specs.Seen.{is_seen}
use Rattle.std.proofs.lemmas.Bool.Decides.{nat_tests}
use Rattle.std.proofs.lemmas.Result.{err_from_is_err_and}
use Rattle.network.specs.Decode.{placed_fault, value_at, place_for}
use Rattle.network.specs.Fields.{is_in}
use Rattle.network.specs.Refusals.{at, refuse, unless}
use Rattle.network.proofs.Faults.{fault-none, fault-more, fault-found}
use Rattle.network.proofs.Marks.{named_start, mark-more}
use Rattle.network.proofs.Places.{place-next}
use Rattle.network.proofs.Takes.{station-took, station-cut, then_at}
use Rattle.network.proofs.sheets.checks.check_stations.Goals as goal

pub loop-init : goal.loop-init
unfolding place_for
loop-init c =
    let w = c.args.counts.bits in
    let s : ℕ = 2 * c.args.counts.couplings in
    let narrow : w ≤ 9 = c.args.counts.narrow in
    let b : w * s ≤ 9 * s = mul-le-mul_right s narrow in
    let e : place_for w (s + 0) ≡ place_for w s = ap (place_for w) (omega arith) in (
      c.requires ∙ sym e,
      omega (arith, c.requires),
      fault-none _ 0 (omega arith),
      (λ v h. c.none-seen.ensures v ∙ sym (named_start _ v)),
      refl,
    )

pub returns-in_err-station : goal.returns-in_err-station
unfolding placed_fault
returns-in_err-station c =
    let p = err_from_is_err_and c.from_residual.result c.from_residual.ensures.1 in
    let bs = c.args.reader.now.bytes.now in
    let w = c.args.counts.bits in
    let n = c.args.counts.stations in
    let s : ℕ = 2 * c.args.counts.couplings in
    let k = c.loop.counter in
    let f = placed_fault bs n w s in
    let cut = station-cut bs _ _ w (s + k) _ c.loop.invariant.4 c.loop.invariant.0 c.in_err-station.ensures.value in
    let here : f k ≡ refuse 1 (place_for w (s + k)) = grind (arith, nat_tests) in
    let first = fault-found f k n (at 1 (place_for w (s + k))) c.loop.invariant.2 here (omega arith) in
    rw (p.1, p.2, cut.1) (record { value = sym (ap (λ o. unless o tt) first); bytes = search rules })

pub returns-then-not-insert : goal.returns-then-not-insert
unfolding placed_fault
returns-then-not-insert c =
    let bs = c.args.reader.now.bytes.now in
    let w = c.args.counts.bits in
    let n = c.args.counts.stations in
    let s : ℕ = 2 * c.args.counts.couplings in
    let k = c.loop.counter in
    let f = placed_fault bs n w s in
    let got = station-took bs _ _ w (s + k) _ c.loop.invariant.4 c.loop.invariant.0 c.in_ok-station.ensures.value in
    let told = c.if-not-insert.ensures.new in
    let here : f k ≡ refuse 7 c.loop.reader.at =
    ⊎_elim
    (λ lt. let m = c.loop.invariant.3 c.in_ok-station.station (omega (arith, c.args.counts.few)) in grind (arith, nat_tests))
    (λ ge. grind (arith, nat_tests))
    (cases_lt c.in_ok-station.station n) in
    let first = fault-found f k n (at 7 c.loop.reader.at) c.loop.invariant.2 here (omega arith) in
    record { value = sym (ap (λ o. unless o tt) first); bytes = search rules }

pub loop-preserved : goal.loop-preserved
unfolding placed_fault
loop-preserved c =
    let bs = c.args.reader.now.bytes.now in
    let w = c.args.counts.bits in
    let n = c.args.counts.stations in
    let s : ℕ = 2 * c.args.counts.couplings in
    let k = c.loop.counter in
    let v = c.in_ok-station.station in
    let f = placed_fault bs n w s in
    let was = c.in_ok-station.ensures in
    let told = c.if-not-insert.ensures.new in
    let got = station-took bs _ _ w (s + k) v c.loop.invariant.4 c.loop.invariant.0 was.value in
    let known : v < n = ltb-true _ _ (and_parts (ltb v n) _ (sym told)).0 in
    let m = c.loop.invariant.3 v (omega (arith, c.args.counts.few)) in
    let here : f k ≡ None = grind (arith, nat_tests) in
    let e : s + (k + 1) ≡ s + k + 1 = omega arith in
    let inside : is_in c.loop.reader.bytes.now c.loop.reader.at w ≡ true = grind (arith, nat_tests) in
    let next : c.take.new.self.at ≡ place_for w (s + k + 1) = then_at c.loop.reader.bytes.now c.loop.reader.at w (s + k) _ c.loop.invariant.0 inside was.place in (
      next ∙ ap (place_for w) (sym e),
      omega (arith, next, place-next w (s + k)),
      fault-more f k c.loop.invariant.2 here,
      mark-more (is_seen c.loop.seen) _ (λ i. value_at bs w (s + i)) k v (sym got.1) (c.if-not-insert.ensures.marked refl) c.loop.invariant.3,
      was.bytes ∙ c.loop.invariant.4,
    )
