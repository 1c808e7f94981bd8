use Rattle.std.proofs.Common.{◌≡◌, ◌++◌, length, take, drop, replicate, Ok, sym, ap, ◌∙◌, rules}
use Rattle.std.proofs.lemmas.List.{take_at}
use Rattle.std.proofs.lemmas.Result.{err_from_is_err_and}
use Rattle.network.specs.Decode.{decode, order_after, held_after}
use Rattle.network.specs.Laws.{Bytes}
use Rattle.network.specs.SheetView.{sheet_in}
use Rattle.network.specs.Sheets.{Sheet}
use Rattle.network.proofs.Wells.{read-well}
use Rattle.logger.specs.Reports.{inspected, again_after}
use Rattle.logger.proofs.Rewriting.{read-refused, read-accepted, read_whole, outcome-is, buffer-is}
use Rattle.logger.proofs.report.inspect.Goals as goal

pub returns-in_err-read_sheet : goal.returns-in_err-read_sheet
returns-in_err-read_sheet c =
    let p = err_from_is_err_and c.from_residual.result c.from_residual.ensures.1 in
    let bs = c.args.sheet.now in
    let old = c.args.again.now in
    let fault = read-refused bs _ c.in_err-read_sheet.ensures.answer in
    rw (p.1, p.2) (record { answer = sym (ap (λ r. inspected r bs (length old)) fault); again = sym (ap (λ r. again_after r bs old) fault) })

pub returns : goal.returns
returns c =
    let bs = c.args.sheet.now in
    let was = c.in_ok-read_sheet.ensures in
    let got = read-accepted bs was.answer in
    let s : Sheet = got.0 in
    let d : decode bs ≡ Ok s = got.1 in
    let b : Bytes bs = search rules in
    let held : sheet_in c.read_sheet.new.place ≡ s = was.held ∙ ap (λ r. held_after r (sheet_in c.lone-network.result)) (read_whole bs ∙ d) in
    let list : c.read_sheet.new.order ≡ s.order ++ drop s.size (replicate 512 0) = was.order ∙ ap (λ r. order_after r (replicate 512 0)) (read_whole bs ∙ d) in
    let order : take s.size c.read_sheet.new.order ≡ s.order = ap (take s.size) list ∙ take_at s.order _ _ (read-well bs s d).whole in
    record {
      answer = c.rewrite.ensures.answer ∙ outcome-is bs s b d c.args.again.now _ _ _ c.size-stations.ensures held order;
      again = c.rewrite.ensures.again ∙ buffer-is bs s b d c.args.again.now _ _ _ c.size-stations.ensures held order;
    }
