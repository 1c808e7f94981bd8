use Rattle.std.proofs.Common.{◌≡◌, ◌<◌, ◌≤◌, true, sym, arith, rules}
use Rattle.network.specs.Net.{Net}
use Rattle.network.proofs.Nexts.{next-found, next-none}
use Rattle.network.proofs.net.Network.next.Goals as goal

pub returns-then-t-size : goal.returns-then-t-size
returns-then-t-size g c =
    let net : Net = g.Self.Network.meaning c.args.self.now in
    let past : net.size ≤ c.loop-t.t = omega (arith, c.size-size.ensures) in
    sym (next-none net c.args.station c.args.from c.loop-t.t past c.loop-t.invariant.1)

pub returns-then-coupled : goal.returns-then-coupled
returns-then-coupled g c =
    let net : Net = g.Self.Network.meaning c.args.self.now in
    let t = c.loop-t.t in
    let inside : t < net.size = omega (arith, c.size-size.ensures) in
    let coupled : net.coupled c.args.station t ≡ true = search rules in
    sym (next-found net c.args.station c.args.from t c.loop-t.invariant.0 inside coupled c.loop-t.invariant.1)
