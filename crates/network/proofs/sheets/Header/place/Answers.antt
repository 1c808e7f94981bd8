use Rattle.std.proofs.Common.{◌*◌, ◌≤◌, refl, mul-le-mul_right, arith}
use Rattle.network.specs.Decode.{place_for}
use Rattle.network.proofs.sheets.Header.place.Goals as goal

pub returns : goal.returns
unfolding place_for
returns c = let b : c.args.self.bits * c.args.i ≤ 9 * c.args.i = mul-le-mul_right c.args.i (omega arith) in record { value = refl; small = omega arith }
