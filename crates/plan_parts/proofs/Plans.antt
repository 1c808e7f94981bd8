-- What an elimination keeps, in the forms that calls on its parts ask for.
use Rattle.std.proofs.Common.{◌≡◌, ℕ, true, false, sym, ap, ◌∙◌, subst}
use Rattle.network.specs.Net.{Net, Lawful}
use Rattle.elimination.specs.declared.engine.Elimination.{Elimination}
use Rattle.elimination.specs.Elimination.{filled}
use Rattle.elimination.specs.Graphs.{Graph, Simple, closed}
use Rattle.elimination.specs.View.{graph, listed}
use Rattle.elimination.proofs.Eliminations.{pairs-of, simple-of}
use Rattle.elimination.proofs.Least.{filled-irreflexive}
use Rattle.elimination.proofs.Listing.{order-of}
use Rattle.elimination.proofs.Relations.{closed-to}
use Rattle.elimination.proofs.Statements.{filled-order-closed, filled-simple, lawful-simple}

pub opened-simple : (net : Net) → Lawful net → (size : ℕ) (C : Graph) → size ≡ net.size → C ≡ net.coupled → Simple size C
opened-simple net l size C e f =
    let P : ℕ → Type 0 = λ n. Simple n C in
    let Q : Graph → Type 0 = λ G. Simple net.size G in
    subst P (sym e) (subst Q (sym f) (lawful-simple net l))

pub pairs-simple : (e : Elimination) → Simple e.order.size (graph e.pairs)
pairs-simple e = subst (λ (G : Graph). Simple e.order.size G) (sym (pairs-of e)) (filled-simple e.order.size (graph e.couplings) (simple-of e) (listed e.order) (order-of e.order))

pub pairs-closed : (e : Elimination) → closed (graph e.pairs) (listed e.order) ≡ true
pairs-closed e =
    subst (λ (G : Graph). closed G (listed e.order) ≡ true) (sym (pairs-of e))
    (closed-to (filled (graph e.couplings) (listed e.order)) (listed e.order) (filled-order-closed e.order.size (graph e.couplings) (simple-of e) (listed e.order) (order-of e.order)))

-- no station forms a filled pair with itself
pub pairs_apart : (e : Elimination) (a b : ℕ) → a ≡ b → graph e.pairs a b ≡ false
pairs_apart e a b same = ap (graph e.pairs a) (sym same) ∙ e.filled a a ∙ filled-irreflexive (graph e.couplings) (listed e.order) e.irreflexive a
