use Rattle.std.proofs.Common.{◌≡◌, ℕ, ◌+◌, ◌*◌, ◌^◌, ◌<◌, ◌≤◌, ◌++◌, length, ap, ◌∙◌, subst, arith, rules}
use Rattle.network.proofs.OrderChecks.{faultless-order}
use Rattle.network.proofs.Places.{width-holds}
use Rattle.network.proofs.Writes.{puts-both, length-head_bits, wrote-pack}
use Rattle.network.proofs.WholeSheets.{sheet-bits, sheet-length, sheet-room}
use Rattle.network.specs.Encode.{bytes_of}
use Rattle.network.specs.Laws.{Bytes}
use Rattle.network.specs.Sheets.{spread, width, pairs_to, bits_in, sheet_from, encode}
use Rattle.network.specs.Writing.{Puts, head_bits, pair_bits}
use Rattle.network.proofs.sheets.writing.put_sheet.Given as given
use Rattle.network.proofs.sheets.writing.put_sheet.Goals as goal
use Rattle.network.proofs.sheets.writing.put_sheet.Goals.{After-new-writer}

-- the bytes are as long as the sheet
long : (g : given.Over) (c : After-new-writer g) → length c.new-writer.result.bytes.now ≡ length (bytes_of (g.N.Network.meaning c.args.network.now) c.args.order.now)
long g c = search rules

-- they have room for all of it
room : (g : given.Over) (c : After-new-writer g) → let net = g.N.Network.meaning c.args.network.now in
    (32 + length (pair_bits c.args.counts.bits (pairs_to net.coupled net.size)) + length (spread c.args.counts.bits c.args.order.now) ≤ 8 * length c.new-writer.result.bytes.now)
    × (length c.new-writer.result.bytes.now < 2 ^ 32)
room g c =
    sheet-room (g.N.Network.meaning c.args.network.now) c.args.order.now _ _ _ _ (g.N.Network.lawful c.args.network.now)
    c.requires.order c.requires.size c.requires.count c.args.counts.wide (long g c)

pub put_head-requires : goal.put_head-requires
put_head-requires g c =
    let net = g.N.Network.meaning c.args.network.now in
    let all = room g (goal.at.put_head-requires g c).After-new-writer in
    let head = length-head_bits c.args.counts.stations c.args.counts.couplings in
    (omega (arith, all.0, head, c.new-writer.ensures.place), all.1)

pub put_pairs-requires : goal.put_pairs-requires
put_pairs-requires g c =
    let all = room g (goal.at.put_pairs-requires g c).After-new-writer in
    let head = length-head_bits c.args.counts.stations c.args.counts.couplings in
    record {
      size = c.requires.size;
      room = (omega (arith, all.0, head, c.new-writer.ensures.place, c.put_head.ensures.place, c.put_head.ensures.size), omega (arith, all.1, c.put_head.ensures.size));
    }

pub put_list-requires : goal.put_list-requires
put_list-requires g c =
    let net = g.N.Network.meaning c.args.network.now in
    let w = c.args.counts.bits in
    let is = faultless-order c.args.order.now net.size c.requires.order in
    let all = room g (goal.at.put_list-requires g c).After-new-writer in
    let head = length-head_bits c.args.counts.stations c.args.counts.couplings in
    let e : w ≡ width net.size = c.args.counts.wide ∙ ap width c.requires.size in
    let big : net.size ≤ 2 ^ w = omega (arith, width-holds net.size is.few, ap (λ (x : ℕ). 2 ^ x) e) in
    record {
      fit = λ k h. omega (arith, is.known k (omega (arith, is.whole)));
      room = (
        omega (arith, all.0, head, c.new-writer.ensures.place, c.put_head.ensures.place, c.put_head.ensures.size, c.put_pairs.ensures.place, c.put_pairs.ensures.size),
        omega (arith, all.1, c.put_head.ensures.size, c.put_pairs.ensures.size),
      );
    }

pub returns : goal.returns
unfolding encode
returns g c =
    let net = g.N.Network.meaning c.args.network.now in
    let order = c.args.order.now in
    let w = c.args.counts.bits in
    let first = c.new-writer.result in
    let last = c.put_list.new.writer in
    let head = head_bits c.args.counts.stations c.args.counts.couplings in
    let pairs = pair_bits w (pairs_to net.coupled net.size) in
    let parts : Puts first last (head ++ (pairs ++ spread w order)) =
    puts-both head (pairs ++ spread w order) c.put_head.ensures (puts-both pairs (spread w order) c.put_pairs.ensures c.put_list.ensures) in
    let all : Puts first last (bits_in (sheet_from net order)) =
    subst (Puts first last) (sheet-bits net order _ _ _ c.requires.size c.requires.count c.args.counts.wide) parts in
    let bytes : Bytes last.bytes.now = search rules in
    let e : last.bytes.now ≡ bytes_of net order =
    wrote-pack _ _ first.bytes.now last.bytes.now (bits_in (sheet_from net order)) (c.new-writer.ensures.bytes ∙ c.fill.ensures.after (λ y e. e)) c.new-writer.ensures.place
    bytes (all.size ∙ long g (goal.at.returns g c).After-new-writer ∙ sheet-length net order) all.written in
    search rules
