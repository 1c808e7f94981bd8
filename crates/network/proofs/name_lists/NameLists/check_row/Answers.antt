use Rattle.std.proofs.Common.{◌≡◌, ℕ, ◌+◌, ◌-◌, slice_index, sym, ap, ◌∙◌, arith}
use Rattle.std.proofs.lemmas.Result.{err_from_is_err_and}
use Rattle.network.specs.Refusals.{first_fault}
use Rattle.network.specs.Lists.{InList, row_fault}
use Rattle.network.proofs.ListFaults.{part_none, part-more, part-found, answer_ok, answer_err, was-ok, was-err}
use Rattle.network.proofs.name_lists.NameLists.check_row.Goals as goal

pub loop-k-init : goal.loop-k-init
loop-k-init g c = rw c.part_of-part.ensures.low (part_none (g.found c.args.station) (slice_index c.args.self.now.starts.now c.args.station))

pub returns-in_err-check : goal.returns-in_err-check
unfolding row_fault
returns-in_err-check g c =
    let k = c.loop-k.k in
    let s = c.args.station in
    let starts = c.args.self.now.starts.now in
    let lies : InList starts s k = (c.requires.1.0, omega (arith, c.part_of-part.ensures.low), omega (arith, c.part_of-part.ensures.high)) in
    let p = err_from_is_err_and c.from_residual.result c.from_residual.ensures.1 in
    let told = was-err (g.found s k) _ (c.requires.1.1.1 k _ lies c.in_err-check.ensures) in
    rw (p.1, p.2) (answer_err _ _ (part-found (g.found s) (slice_index starts s) k (slice_index starts (s + 1)) _ lies.1 lies.2 c.loop-k.invariant told))

pub loop-k-preserved : goal.loop-k-preserved
loop-k-preserved g c =
    let k = c.loop-k.k in
    let s = c.args.station in
    let starts = c.args.self.now.starts.now in
    let lies : InList starts s k = (c.requires.1.0, omega (arith, c.part_of-part.ensures.low), omega (arith, c.part_of-part.ensures.high)) in
    part-more (g.found s) (slice_index starts s) k lies.1 c.loop-k.invariant (was-ok (g.found s k) (c.requires.1.1.1 k _ lies c.in_ok-check.ensures))

pub returns : goal.returns
unfolding row_fault
returns g c =
    let s = c.args.station in
    let starts = c.args.self.now.starts.now in
    let end : c.loop-k.k ≡ slice_index starts (s + 1) = omega (arith, c.part_of-part.ensures.order, c.part_of-part.ensures.high) in
    answer_ok _ (ap (λ (k : ℕ). first_fault (λ j. g.found s (slice_index starts s + j)) (k - slice_index starts s)) (sym end) ∙ c.loop-k.invariant)
