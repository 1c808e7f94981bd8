use Rattle.std.proofs.Common.{◌≡◌, ◌+◌, ◌-◌, length, take, drop, sym, ◌∙◌}
use Rattle.std.proofs.lemmas.List.{take_rest}
use Rattle.elimination.specs.Orders.{later}
use Rattle.elimination.specs.View.{listed}
use Rattle.elimination.proofs.Afterwards.{later-listed, later_small, length-later}
use Rattle.elimination.proofs.order.EliminationOrder.later.Goals as goal

pub returns : goal.returns
returns c =
    let order = c.args.self.now in
    let s = c.args.station in
    let k = c.position.result in
    let small = c.position.ensures.small in
    let there = c.position.ensures.there in
    let e : take (length c.stations.result.now - (k + 1)) (drop (k + 1) c.stations.result.now) ≡ later (listed order) s =
    rw c.stations.ensures.list (take_rest (listed order) (k + 1) ∙ sym (later-listed order s k small there)) in
    record { list = e; fewer = rw e (length-later order s k small there); small = rw e (later_small order s k small there) }
