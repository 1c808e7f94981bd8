use Rattle.std.proofs.Common.{ℕ, ◌^◌, ◌≤◌, sym, ap, subst, arith}
use Rattle.network.proofs.Places.{width-holds}
use Rattle.network.proofs.Writes.{puts_none, puts-both, pairs-none, pairs-more, pairs-room}
use Rattle.network.specs.Sheets.{width, row_to, pairs_to}
use Rattle.network.specs.Writing.{Puts, pair_bits}
use Rattle.network.proofs.sheets.writing.put_pairs.Goals as goal

pub loop-a-init : goal.loop-a-init
loop-a-init g c = subst (Puts _ _) (sym (pairs-none c.args.counts.bits (g.N.Network.meaning c.args.network.now).coupled)) (puts_none c.args.writer.now)

pub put_row-requires : goal.put_row-requires
put_row-requires g c =
    let net = g.N.Network.meaning c.args.network.now in
    let few = (g.N.Network.lawful c.args.network.now).few in
    let w = c.args.counts.bits in
    let big : net.size ≤ 2 ^ w = omega (arith, width-holds net.size few, ap (λ (x : ℕ). 2 ^ width x) c.requires.size, ap (λ (x : ℕ). 2 ^ x) c.args.counts.wide) in
    let fits = pairs-room w net.coupled c.loop-a.a net.size (omega (arith, c.size-n.ensures)) in
    record {
      fit = omega (arith, c.size-n.ensures);
      room = (omega (arith, c.loop-a.invariant.place, c.loop-a.invariant.size), omega (arith, c.loop-a.invariant.size));
    }

pub loop-a-preserved : goal.loop-a-preserved
loop-a-preserved g c =
    let C = (g.N.Network.meaning c.args.network.now).coupled in
    let w = c.args.counts.bits in
    let a = c.loop-a.a in
    subst (Puts _ _) (sym (pairs-more w C a)) (puts-both (pair_bits w (pairs_to C a)) (pair_bits w (row_to C a a)) c.loop-a.invariant c.put_row.ensures)
