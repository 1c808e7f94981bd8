use Rattle.std.proofs.Common.{◌≡◌, length, rules}
use Rattle.elimination.proofs.Rows.{rows-placed}
use Rattle.elimination.proofs.words.place.Goals as goal

pub returns : goal.returns
returns c =
    let l : length c.args.words.now ≡ 4096 = search rules in
    rows-placed c.args.words.now c.args.a c.args.b l c.requires.one c.requires.two
