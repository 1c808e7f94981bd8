use Rattle.std.proofs.Common.{refl, add-one, arith}
use Rattle.std.proofs.lemmas.Result.{err_from_is_err_and}
use Rattle.network.specs.Lists.{row_fault}
use Rattle.network.proofs.ListFaults.{walk_none, walk_more, walk-found, answer_err, was-ok, was-err}
use Rattle.network.proofs.name_lists.NameLists.check_rows.Goals as goal

pub loop-station-init : goal.loop-station-init
loop-station-init g c = walk_none _ 0 refl

pub returns-in_err-check_row : goal.returns-in_err-check_row
returns-in_err-check_row g c =
    let p = err_from_is_err_and c.from_residual.result c.from_residual.ensures.1 in
    let found = row_fault c.args.self.now.starts.now g.found in
    let s = c.loop-station.station in
    rw (p.1, p.2)
    (answer_err _ _ (walk-found found s _ _ c.loop-station.invariant (was-err (found s) _ c.in_err-check_row.ensures) (omega arith)))

pub loop-station-preserved : goal.loop-station-preserved
loop-station-preserved g c =
    let s = c.loop-station.station in
    let found = row_fault c.args.self.now.starts.now g.found in
    walk_more found s _ (add-one s) c.loop-station.invariant (was-ok (found s) c.in_ok-check_row.ensures)
