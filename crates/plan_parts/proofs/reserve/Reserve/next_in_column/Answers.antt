use Rattle.std.proofs.Common.{arith}
use Rattle.plan_parts.specs.ReserveView.{filled_in, size_in}
use Rattle.plan_parts.proofs.Columns.{next-outside, next-own, next-later, first_next}
use Rattle.plan_parts.proofs.reserve.Reserve.next_in_column.Goals as goal

pub returns-then-column-size : goal.returns-then-column-size
returns-then-column-size c =
    let r = c.args.self.now in
    let f = next-outside (filled_in r) (size_in r) c.args.column c.args.from r.order.few (omega (arith, c.size.ensures)) in
    record { value = first_next (filled_in r) (size_in r) c.args.column c.args.from r.order.few _ f; first = f }

pub returns-then-from-column : goal.returns-then-from-column
returns-then-from-column c =
    let r = c.args.self.now in
    let f = next-own (filled_in r) (size_in r) c.args.column c.args.from r.order.few (omega (arith, c.size.ensures)) (omega arith) in
    record { value = first_next (filled_in r) (size_in r) c.args.column c.args.from r.order.few _ f; first = f }

pub returns : goal.returns
returns c =
    let r = c.args.self.now in
    let f = next-later (filled_in r) (size_in r) c.args.column c.args.from r.order.few r.symmetric r.below (omega arith) _ c.next.ensures.first in
    record { value = first_next (filled_in r) (size_in r) c.args.column c.args.from r.order.few _ f; first = f }
