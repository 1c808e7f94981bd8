use Rattle.std.proofs.Common.{◌≡◌, ◌+◌, ◌-◌, ◌*◌, ◌<◌, length, subst, ℕ, arith, rules}
use Rattle.elimination.proofs.RowTests.{Taken, rows-taken, taken-none, taken-more}
use Rattle.elimination.proofs.words.take_row.Goals as goal

pub loop-k-init : goal.loop-k-init
loop-k-init c = taken-none c.args.words.now c.row_of-row.result (c.args.a * 8) _ (omega arith)

pub loop-k-preserved : goal.loop-k-preserved
loop-k-preserved c =
    let room : c.loop-k.k < length c.loop-k.part = search rules in
    let long : length c.loop-k.part ≡ (c.args.a * 8 + 8) - c.args.a * 8 = search rules in
    taken-more c.loop-k.part c.args.words.now c.row_of-row.result (c.args.a * 8) c.loop-k.k (omega arith) room c.loop-k.invariant

pub returns : goal.returns
returns c =
    let l : length c.args.words.now ≡ 4096 = search rules in
    let long : length c.loop-k.part ≡ (c.args.a * 8 + 8) - c.args.a * 8 = search rules in
    let e : c.loop-k.k ≡ 8 = search rules in
    rows-taken c.args.words.now c.loop-k.part c.row_of-row.result c.args.a c.args.v _ l c.requires.one c.requires.two (omega arith) (omega arith) c.row_of-row.ensures
    (subst (λ (k : ℕ). Taken c.loop-k.part c.args.words.now c.row_of-row.result (c.args.a * 8) k) e c.loop-k.invariant)
