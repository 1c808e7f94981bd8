use Rattle.std.proofs.Common.{◌≡◌, ◌*◌, ◌/◌, arith, rules}
use Rattle.network.specs.Fields.{field, Written}
use Rattle.network.proofs.Windows.{written-wide, three}
use Rattle.network.proofs.bit_fields.put_field.Goals as goal

pub returns : goal.returns
returns c =
    let win : c.window_of.result ≡ field c.args.bytes.now (8 * (c.args.at / 8)) 24 = search rules in
    let so : Written c.args.bytes.now (three c.args.bytes.now (c.args.at / 8) c.spliced-next.result) c.args.at c.args.width c.args.value c.args.width =
    written-wide c.args.bytes.now c.args.at c.args.width c.args.value c.spliced-next.result (omega arith) (omega arith)
    (rw win at c.spliced-next.ensures.bits) in
    let e : c.store_window.new.bytes ≡ three c.args.bytes.now (c.args.at / 8) c.spliced-next.result = search rules in
    rw e so
