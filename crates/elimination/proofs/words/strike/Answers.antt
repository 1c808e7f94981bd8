use Rattle.std.proofs.Common.{◌≡◌, length, rules}
use Rattle.elimination.proofs.Rows.{rows-struck}
use Rattle.elimination.proofs.words.strike.Goals as goal

pub returns : goal.returns
returns c =
    let l : length c.args.words.now ≡ 4096 = search rules in
    rows-struck c.args.words.now c.args.a c.args.b l c.requires.one c.requires.two
