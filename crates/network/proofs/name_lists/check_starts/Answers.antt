use Rattle.std.proofs.Common.{◌≡◌, true, false, length, Some, None, arith, rules}
use Rattle.std.proofs.lemmas.Bool.{cond-true, cond-false}
use Rattle.std.proofs.lemmas.Iterator.{first_from_Range}
use Rattle.network.specs.Refusals.{at}
use Rattle.network.specs.Lists.{is_fitting_start, start_fault}
use Rattle.network.proofs.ListFaults.{walk-all, walk-found, answer_ok, answer_err}
use Rattle.network.proofs.name_lists.check_starts.Goals as goal

pub returns-in-Some : goal.returns-in-Some
returns-in-Some c =
    let starts = c.args.starts.now in
    let count = c.args.count in
    let first = first_from_Range _ _ _ (Some c.in-Some.i) (λ i. is_fitting_start starts count i ≡ false) (λ i. is_fitting_start starts count i ≡ true) c.in-Some.ensures.ran
    (λ x q call. search rules)
    (λ x q call. search rules) in
    answer_err _ _
    (walk-found (start_fault starts count) c.in-Some.i (length starts) (at 10 c.in-Some.i)
    (walk-all _ _ (λ j lt. cond-true _ _ _ (first.3 j (omega arith) lt))) (cond-false _ _ _ first.2) first.1)

pub returns-in-None : goal.returns-in-None
returns-in-None c =
    let starts = c.args.starts.now in
    let count = c.args.count in
    let all = first_from_Range _ _ _ None (λ i. is_fitting_start starts count i ≡ false) (λ i. is_fitting_start starts count i ≡ true) c.in-None.ensures.ran
    (λ x q call. search rules)
    (λ x q call. search rules) in
    answer_ok _ (walk-all (start_fault starts count) (length starts) (λ j lt. cond-true _ _ _ (all j (omega arith) lt)))
