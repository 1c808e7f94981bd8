use Rattle.std.proofs.Common.{◌≡◌, ℕ, sym, ap, ◌∙◌, subst}
use Rattle.elimination.specs.Dropping.{Ready, Tight}
use Rattle.elimination.specs.Graphs.{Graph}
use Rattle.elimination.specs.View.{graph, listed}
use Rattle.elimination.proofs.Eliminations.{pairs-of, ready-of, simple-of}
use Rattle.elimination.proofs.Listing.{order-sized}
use Rattle.elimination.proofs.Tightening.{fills-within, tight-minimal}
use Rattle.elimination.proofs.engine.Elimination.tightened.Goals as goal

pub without_spare-tight-requires-clause-ready : goal.without_spare-tight-requires-clause-ready
without_spare-tight-requires-clause-ready c =
    let e = c.args.self.now in
    subst (λ (m : ℕ). Ready m (graph e.couplings) (graph e.pairs)) (sym c.size-size.ensures) (ready-of e)

pub returns : goal.returns
returns c =
    let e = c.args.self.now in
    let n = e.order.size in
    let C : Graph = graph e.couplings in
    let G : Graph = graph c.without_spare-tight.result in
    let new = c.perfect_order.result in
    let same : new.size ≡ n = c.perfect_order.ensures.size ∙ c.size-size.ensures in
    let R : ℕ → Type 0 = λ m. Ready m C G in
    let T : ℕ → Type 0 = λ m. Tight m C G in
    let ready = subst R c.size-size.ensures c.without_spare-tight.ensures.ready in
    let within = λ (a b : ℕ) (h : G a b ≡ _). sym (ap (λ (K : Graph). K a b) (pairs-of e)) ∙ c.without_spare-tight.ensures.within a b h in
    record {
      size = same;
      within = fills-within n C (simple-of e) G (listed e.order) (listed new) ready.holds within (order-sized new n same) c.perfect_order.ensures.closed;
      minimal = tight-minimal n C (simple-of e) G (listed new) ready (subst T c.size-size.ensures c.without_spare-tight.ensures.tight) (order-sized new n same) c.perfect_order.ensures.closed;
    }
