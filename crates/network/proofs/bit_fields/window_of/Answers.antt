use Rattle.std.proofs.Common.{arith}
use Rattle.network.proofs.Fields.{field-three}
use Rattle.network.proofs.bit_fields.window_of.Goals as goal

pub returns : goal.returns
returns c =
    record {
      small = omega arith;
      field = omega (arith, field-three c.args.bytes.now c.args.j (omega arith) (omega arith) (omega arith));
    }
