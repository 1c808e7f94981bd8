use Rattle.std.proofs.Common.{◌≡◌, ◌<◌, ltb, get_or, None, sym, refl, ap, ◌∙◌, ⊎_elim, arith}
use Rattle.std.proofs.lemmas.Bool.{cases_lt, ltb-true, and_parts}
use Rattle.std.proofs.lemmas.Bool.Decides.{nat_tests}
use Rattle.network.specs.Refusals.{at, refuse, unless}
use Rattle.network.specs.Orders.{station_fault, among}
use Rattle.network.specs.Seen.{is_seen}
use Rattle.network.proofs.Faults.{fault-none, fault-more, fault-found}
use Rattle.network.proofs.Marks.{named_start, mark-more}
use Rattle.network.proofs.orders.check_stations.Goals as goal

pub loop-k-init : goal.loop-k-init
loop-k-init c = (fault-none _ 0 (omega arith), λ v h. c.none-seen.ensures v ∙ sym (named_start _ v))

pub returns-then-not-insert : goal.returns-then-not-insert
unfolding station_fault
returns-then-not-insert c =
    let xs = c.args.order.now in
    let k = c.loop-k.k in
    let f = station_fault xs c.args.n in
    let seen : get_or xs k 0 < c.args.n → is_seen c.loop-k.seen (get_or xs k 0) ≡ among xs k (get_or xs k 0) = λ lt. c.loop-k.invariant.1 (get_or xs k 0) (omega (arith, c.requires.1)) in
    let told = c.if-not-insert.ensures.new in
    let here : f k ≡ refuse 14 k =
    ⊎_elim
    (λ lt. let m = seen lt in grind (arith, nat_tests))
    (λ ge. grind (arith, nat_tests))
    (cases_lt (get_or xs k 0) c.args.n) in
    sym (ap (λ o. unless o tt) (fault-found f k c.args.n (at 14 k) c.loop-k.invariant.0 here (omega arith)))

pub loop-k-preserved : goal.loop-k-preserved
unfolding station_fault
loop-k-preserved c =
    let xs = c.args.order.now in
    let k = c.loop-k.k in
    let v = get_or xs k 0 in
    let f = station_fault xs c.args.n in
    let told = c.if-not-insert.ensures.new in
    let known : v < c.args.n = ltb-true _ _ (and_parts (ltb v c.args.n) _ (sym told)).0 in
    let m = c.loop-k.invariant.1 v (omega arith) in
    let here : f k ≡ None = grind (arith, nat_tests) in (
      fault-more f k c.loop-k.invariant.0 here,
      mark-more (is_seen c.loop-k.seen) _ (λ i. get_or xs i 0) k v refl (c.if-not-insert.ensures.marked refl) c.loop-k.invariant.1,
    )
