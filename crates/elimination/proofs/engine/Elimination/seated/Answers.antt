use Rattle.std.proofs.Common.{ℕ, sym, subst}
use Rattle.elimination.specs.Dropping.{Ready}
use Rattle.elimination.specs.View.{graph}
use Rattle.elimination.proofs.Eliminations.{ready-of}
use Rattle.elimination.proofs.engine.Elimination.seated.Goals as goal

pub perfect_order-requires-clause-simple : goal.perfect_order-requires-clause-simple
perfect_order-requires-clause-simple c =
    let e = c.args.self.now in
    let r = subst (λ (m : ℕ). Ready m (graph e.couplings) (graph e.pairs)) (sym c.size.ensures) (ready-of e) in
    r.simple

pub perfect_order-requires-clause-perfect : goal.perfect_order-requires-clause-perfect
perfect_order-requires-clause-perfect c =
    let e = c.args.self.now in
    let r = subst (λ (m : ℕ). Ready m (graph e.couplings) (graph e.pairs)) (sym c.size.ensures) (ready-of e) in
    r.perfect
