use Rattle.std.proofs.Common.{eqb, sym, ap, ◌∙◌}
use lib.Bits.{and_mask}
use Rattle.network.specs.Bits.{bit_at}
use Rattle.elimination.specs.Words.{has}
use Rattle.elimination.proofs.Rows.{rows-has}
use Rattle.elimination.proofs.words.holds.Goals as goal

pub returns : goal.returns
unfolding has bit_at
returns c = ap (λ x. eqb x 1) (and_mask _ 1) ∙ sym (rows-has c.args.words.now c.args.a c.args.b c.requires.one c.requires.two)
