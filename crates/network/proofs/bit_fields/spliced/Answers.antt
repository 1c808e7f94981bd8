use Rattle.std.proofs.Common.{◌^◌, ◌<◌, arith, rules}
use Rattle.network.proofs.Windows.{splice-small, splice-bits}
use Rattle.network.proofs.bit_fields.spliced.Goals as goal

pub returns : goal.returns
returns c =
    let hv : c.args.value < 2 ^ c.args.width = search rules in
    record {
      small = splice-small c.args.window c.args.value c.args.width c.args.shift (omega arith) (omega arith) hv;
      bits = splice-bits c.args.window c.args.value c.args.width c.args.shift (omega arith) (omega arith) hv;
    }
