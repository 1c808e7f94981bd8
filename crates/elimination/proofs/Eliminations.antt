-- What the fields of an elimination keep, as lemmas take it.
use Rattle.std.proofs.Common.{◌≡◌, refl}
use mathlib.Core.Path.{fun_ext}
use Rattle.elimination.specs.declared.engine.Elimination.{Elimination}
use Rattle.elimination.specs.Dropping.{Ready}
use Rattle.elimination.specs.Elimination.{filled}
use Rattle.elimination.specs.Graphs.{Simple}
use Rattle.elimination.specs.View.{graph, listed}
use Rattle.elimination.proofs.Listing.{order-of}
use Rattle.elimination.proofs.Tightening.{ready-pairs}

pub simple-of : (e : Elimination) → Simple e.order.size (graph e.couplings)
simple-of e = record { symmetric = e.symmetric; irreflexive = e.irreflexive; below = e.below }

pub pairs-of : (e : Elimination) → graph e.pairs ≡ filled (graph e.couplings) (listed e.order)
pairs-of e = fun_ext (λ a. fun_ext (λ b. e.filled a b))

-- the filled pairs are ready
pub ready-of : (e : Elimination) → Ready e.order.size (graph e.couplings) (graph e.pairs)
ready-of e = ready-pairs e.order.size e.order.size (graph e.couplings) (graph e.pairs) (listed e.order) refl (pairs-of e) (simple-of e) (order-of e.order)
