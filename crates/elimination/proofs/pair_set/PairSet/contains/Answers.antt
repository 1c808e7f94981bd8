use Rattle.std.proofs.Common.{◌<◌, ◌≤◌, sym, inl, inr, ⊎_elim}
use Rattle.elimination.proofs.Rows.{rows-past}
use Rattle.elimination.proofs.pair_set.PairSet.contains.Goals as goal

pub returns-then-a-ge512 : goal.returns-then-a-ge512
returns-then-a-ge512 c =
    sym (rows-past c.args.self.now.words c.args.a c.args.b
    (⊎_elim (λ (h : 512 ≤ c.args.a). inl h) (λ (h : (c.args.a < 512) × (512 ≤ c.args.b)). inr h.1) c.then-a-ge512.either))
