use Rattle.std.proofs.Common.{arith}
use Rattle.network.proofs.Fields.{field-in-window}
use Rattle.network.proofs.bit_fields.field_of.Goals as goal

pub returns : goal.returns
returns c =
    field-in-window c.args.bytes.now c.args.at c.args.width c.window_of-window.result (omega arith) c.window_of-window.ensures.field
