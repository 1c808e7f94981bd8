use Rattle.network.proofs.OrderChecks.{order_is, order-names-all}
use Rattle.network.proofs.sheet_laws.accepted_list_is_order.Goals as goal

pub returns : goal.returns
returns c = record { exact = order_is; all = order-names-all }
