use Rattle.std.proofs.Common.{◌≡◌, ℕ, ◌+◌, ◌*◌, Some, sym, refl, ap, ◌∙◌, add-one, arith}
use Rattle.std.proofs.lemmas.Bool.{cond-true, cond-false}
use Rattle.std.proofs.lemmas.Result.{err_from_is_err_and}
use Rattle.network.specs.Decode.{pair_fault, place_for}
use Rattle.network.specs.Parts.{pair_in, has_risen}
use Rattle.network.specs.Refusals.{at, unless}
use Rattle.network.proofs.Faults.{fault-none, fault-more, fault-found}
use Rattle.network.proofs.Places.{place-next}
use Rattle.network.proofs.Rising.{pair-unread, pair-read}
use Rattle.network.proofs.sheets.checks.check_pairs.Goals as goal

pub loop-init : goal.loop-init
unfolding place_for
loop-init c = (omega (arith, c.requires), omega (arith, c.requires), refl, fault-none _ 0 (omega arith), refl)

pub returns-in_err-pair-clause-value : goal.returns-in_err-pair-clause-value
returns-in_err-pair-clause-value c =
    let p = err_from_is_err_and c.from_residual.result c.from_residual.ensures.1 in
    let bs = c.args.reader.now.bytes.now in
    let n = c.args.counts.stations in
    let w = c.args.counts.bits in
    let k = c.loop.counter in
    let f = pair_fault bs n w in
    let here = pair-unread bs n w k c.loop.reader.at _ c.loop.invariant.0 (c.in_err-pair.ensures.value ∙ ap (λ l. pair_in l n w c.loop.reader.at) c.loop.invariant.4) in
    let first = fault-found f k c.args.counts.couplings _ c.loop.invariant.3 here (omega arith) in
    rw (p.1, p.2) (sym (ap (λ o. unless o tt) first))

pub returns-then-not-rises-clause-value : goal.returns-then-not-rises-clause-value
returns-then-not-rises-clause-value c =
    let bs = c.args.reader.now.bytes.now in
    let n = c.args.counts.stations in
    let w = c.args.counts.bits in
    let k = c.loop.counter in
    let p = c.loop.reader.at in
    let f = pair_fault bs n w in
    let got = pair-read bs n w k p _ c.loop.invariant.0 (c.in_ok-pair.ensures.value ∙ ap (λ l. pair_in l n w p) c.loop.invariant.4) in
    let here = got.1 ∙ cond-false _ _ _ (ap (λ o. has_risen o c.in_ok-pair.pair) (sym c.loop.invariant.2) ∙ sym c.if-not-rises.ensures) in
    sym (ap (λ o. unless o tt) (fault-found f k c.args.counts.couplings (at 6 p) c.loop.invariant.3 here (omega arith)))

pub loop-preserved : goal.loop-preserved
loop-preserved c =
    let bs = c.args.reader.now.bytes.now in
    let n = c.args.counts.stations in
    let w = c.args.counts.bits in
    let k = c.loop.counter in
    let p = c.loop.reader.at in
    let f = pair_fault bs n w in
    let was = c.in_ok-pair.ensures in
    let got = pair-read bs n w k p _ c.loop.invariant.0 (was.value ∙ ap (λ l. pair_in l n w p) c.loop.invariant.4) in
    let here = got.1 ∙ cond-true _ _ _ (ap (λ o. has_risen o c.in_ok-pair.pair) (sym c.loop.invariant.2) ∙ sym c.if-not-rises.ensures) in
    let e : 2 * (k + 1) ≡ 2 * k + 1 + 1 = omega arith in (
      omega (arith, was.place, ap (place_for w) e, place-next w (2 * k), place-next w (2 * k + 1)),
      omega (arith, was.place),
      rw add-one (ap (λ (x : ℕ × ℕ). Some x) got.0),
      fault-more f k c.loop.invariant.3 here,
      was.bytes ∙ c.loop.invariant.4,
    )
