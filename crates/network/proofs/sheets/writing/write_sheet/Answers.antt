use Rattle.std.proofs.Common.{◌≡◌, ℕ, List, ◌++◌, length, drop, None, Ok, sym, ap, ◌∙◌, ap₂, arith}
use Rattle.std.proofs.lemmas.List.{length-take-le}
use Rattle.std.proofs.lemmas.Result.{err_from_is_err_and}
use Rattle.network.proofs.Faults.{unless-ok, unless-err}
use Rattle.network.proofs.WholeSheets.{div_ceil_is, need-is, write-unordered, write-short, write-fine}
use Rattle.network.specs.Encode.{bytes_of, buffer_after}
use Rattle.network.specs.Orders.{order_fault}
use Rattle.network.specs.Refusals.{unless}
use Rattle.network.proofs.sheets.writing.write_sheet.Given as given
use Rattle.network.proofs.sheets.writing.write_sheet.Goals as goal
use Rattle.network.proofs.sheets.writing.write_sheet.Goals.{After-div_ceil-need}

-- the list is an order
ordered : (g : given.Over) (c : After-div_ceil-need g) → order_fault c.args.order.now (g.N.Network.meaning c.args.network.now).size ≡ None
ordered g c =
    ap (order_fault c.args.order.now) (sym c.size-n.ensures) ∙ (unless-ok (order_fault c.args.order.now c.size-n.result) tt tt c.in_ok-check_order.ensures).0

-- the length that is asked of the bytes is the sheet's
long : (g : given.Over) (c : After-div_ceil-need g) → c.div_ceil-need.result ≡ length (bytes_of (g.N.Network.meaning c.args.network.now) c.args.order.now)
long g c =
    div_ceil_is c.end.result c.div_ceil-need.ensures
    ∙ need-is (g.N.Network.meaning c.args.network.now) c.args.order.now c.new-counts.result.stations _ _ _
    (c.new-counts.ensures.stations ∙ c.size-n.ensures) (ordered g c) (c.new-counts.ensures.couplings ∙ c.count_couplings.ensures.value) c.new-counts.result.wide c.end.ensures.value

pub returns-in_err-check_order : goal.returns-in_err-check_order
returns-in_err-check_order g c =
    let p = err_from_is_err_and c.from_residual.result c.from_residual.ensures.1 in
    let net = g.N.Network.meaning c.args.network.now in
    let order = c.args.order.now in
    let out = c.args.out.now in
    let found = write-unordered net order (length out) c.size-n.result _ c.size-n.ensures (unless-err _ _ _ c.in_err-check_order.ensures) in
    rw (p.1, p.2) (record {
      answer = sym (ap (λ o. unless o (length (bytes_of net order))) found);
      out = sym (ap (λ o. buffer_after o (bytes_of net order) out) found);
    })

pub returns-then-out-need : goal.returns-then-out-need
returns-then-out-need g c =
    let here = (goal.at.returns-then-out-need g c).After-div_ceil-need in
    let net = g.N.Network.meaning c.args.network.now in
    let order = c.args.order.now in
    let out = c.args.out.now in
    let found = write-short net order (length out) _ (ordered g here) (long g here) (omega arith) in
    record {
      answer = sym (ap (λ o. unless o (length (bytes_of net order))) found);
      out = sym (ap (λ o. buffer_after o (bytes_of net order) out) found);
    }

pub put_sheet-requires : goal.put_sheet-requires
put_sheet-requires g c =
    let here = (goal.at.put_sheet-requires g c).After-div_ceil-need in
    record {
      order = ordered g here;
      size = c.new-counts.ensures.stations ∙ c.size-n.ensures;
      count = (c.new-counts.ensures.couplings ∙ c.count_couplings.ensures.value);
      long = length-take-le _ c.args.out.now (omega arith) ∙ long g here;
    }

pub returns : goal.returns
returns g c =
    let here = (goal.at.returns g c).After-div_ceil-need in
    let net = g.N.Network.meaning c.args.network.now in
    let order = c.args.order.now in
    let out = c.args.out.now in
    let found = write-fine net order (length out) _ (ordered g here) (long g here) (omega arith) in
    record {
      answer = ap (λ (x : ℕ). Ok x) (long g here) ∙ sym (ap (λ o. unless o (length (bytes_of net order))) found);
      out = ap₂ (λ (x : List ℕ) (y : ℕ). x ++ drop y out) c.put_sheet.ensures (long g here) ∙ sym (ap (λ o. buffer_after o (bytes_of net order) out) found);
    }
