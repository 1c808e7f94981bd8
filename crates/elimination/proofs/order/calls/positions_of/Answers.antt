use Rattle.std.proofs.Common.{◌≡◌, ◌<◌, length, get_or, ◌∙◌, ⊎_elim, arith, length-set}
use Rattle.std.proofs.lemmas.List.{get_or-set_same, get_or-set_other}
use Rattle.std.proofs.lemmas.Bool.{cases_eq}
use Rattle.elimination.proofs.Listing.{fault-parts, found-placed, list-named, named_small, named-apart}
use Rattle.elimination.proofs.order.calls.positions_of.Goals as goal

pub bounds-positions-station : goal.bounds-positions-station
bounds-positions-station c =
    let xs = c.args.list.now in
    let small = named_small (length xs) xs (omega arith) (list-named xs c.requires) c.loop-k.k (omega arith) in
    omega (arith, c.loop-k.invariant.1, (fault-parts xs (length xs) c.requires).1)

pub loop-k-preserved : goal.loop-k-preserved
loop-k-preserved c =
    let xs = c.args.list.now in
    let k = c.loop-k.k in
    let small = named_small (length xs) xs (omega arith) (list-named xs c.requires) k (omega arith) in
    let room : get_or xs k 0 < length c.loop-k.positions = omega (arith, c.loop-k.invariant.1, (fault-parts xs (length xs) c.requires).1) in (
      λ j h. ⊎_elim
          (λ (q : j ≡ k). rw q (get_or-set_same c.loop-k.positions (get_or xs k 0) k 0 room))
          (λ (ne : j ≡ k → ⊥). get_or-set_other c.loop-k.positions (get_or xs k 0) (get_or xs j 0) k 0 (named-apart (length xs) xs (omega arith) (list-named xs c.requires) j k (omega arith) (omega arith))
          ∙ c.loop-k.invariant.0 j (omega arith))
          (cases_eq j k),
      length-set _ _ _ ∙ c.loop-k.invariant.1,
    )

pub returns-clause-placed : goal.returns-clause-placed
returns-clause-placed c =
    let xs = c.args.list.now in
    found-placed (length xs) xs (omega arith) (list-named xs c.requires) c.loop-k.positions (λ k h. c.loop-k.invariant.0 k (omega arith))
