use Rattle.std.proofs.Common.{◌≡◌, None, sym, ap, ◌∙◌}
use Rattle.std.specs.Option.{is_some}
use Rattle.std.proofs.lemmas.Result.{err_from_is_err_and}
use Rattle.network.specs.Lists.{lists_fault}
use Rattle.network.proofs.ListFaults.{was-ok, was-err, lists-starts, lists-names, lists-sides}
use Rattle.network.proofs.lists.checked_lists.Goals as goal

pub returns-in_err-checked-clause-answer : goal.returns-in_err-checked-clause-answer
returns-in_err-checked-clause-answer c =
    let p = err_from_is_err_and c.from_residual.result c.from_residual.ensures.1 in
    rw (p.1, p.2) (sym (lists-starts c.args.starts.now c.args.names.now _ (sym c.in_err-checked.ensures.answer)))

pub returns-in_err-lists-clause-answer : goal.returns-in_err-lists-clause-answer
returns-in_err-lists-clause-answer c =
    let p = err_from_is_err_and c.from_residual-in_err-lists.result c.from_residual-in_err-lists.ensures.1 in
    rw (p.1, p.2)
    (sym (lists-names c.args.starts.now c.args.names.now _ (sym c.in_ok-checked.ensures.answer)
    (rw (← c.in_ok-checked.ensures.lists.0, ← c.in_ok-checked.ensures.lists.1) (sym c.in_err-lists.ensures.answer))))

pub returns-in_err-check_both_sides-clause-answer : goal.returns-in_err-check_both_sides-clause-answer
returns-in_err-check_both_sides-clause-answer c =
    let p = err_from_is_err_and c.from_residual-in_err-check_both_sides.result c.from_residual-in_err-check_both_sides.ensures.1 in
    let starts = c.args.starts.now in
    let names = c.args.names.now in
    let first = c.in_ok-checked.ensures in
    let second = c.in_ok-lists.ensures in
    rw (p.1, p.2)
    (sym (lists-sides starts names (sym first.answer) (rw (← first.lists.0, ← first.lists.1) (sym second.answer))
    ∙ rw (← first.lists.0, ← first.lists.1, ← second.lists.0, ← second.lists.1) (was-err _ _ c.in_err-check_both_sides.ensures)))

pub invariant_of-result : goal.invariant_of-result
invariant_of-result c =
    let starts = c.args.starts.now in
    let names = c.args.names.now in
    let first = c.in_ok-checked.ensures in
    let second = c.in_ok-lists.ensures in
    let none : lists_fault starts names ≡ None =
    lists-sides starts names (sym first.answer) (rw (← first.lists.0, ← first.lists.1) (sym second.answer))
    ∙ rw (← first.lists.0, ← first.lists.1, ← second.lists.0, ← second.lists.1) (was-ok _ c.in_ok-check_both_sides.ensures) in
    record { faultless = rw (second.lists.0, second.lists.1, first.lists.0, first.lists.1) (ap (λ o. is_some o) none) }
