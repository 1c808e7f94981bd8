-- Marks that were set to 0 from the front.
use Rattle.std.proofs.Common.{◌≡◌, ℕ, zero, suc, ◌<◌, ◌≤◌, List, [], ◌∷◌, ◌++◌, length, get_or, replicate, take, drop, refl, ap, arith}
use Rattle.std.proofs.lemmas.List.{length-take-le}
use Rattle.elimination.specs.Graphs.{Graph}
use Rattle.plan_parts.specs.Layout.{places}
use Rattle.plan_parts.proofs.Numbering.{cell_below}
use Rattle.run_parts.specs.Square.{empty}
use Rattle.run_parts.specs.Tables.{zeroed}
use Rattle.run_parts.specs.Histories.{Agrees}

zeroed_is : (n : ℕ) (ms : List ℕ) → n ≤ length ms → replicate n 0 ++ drop n ms ≡ zeroed n ms
unfolding zeroed
zeroed_is zero ms h = refl
zeroed_is (suc n) [] h = absurd (omega arith)
zeroed_is (suc n) (m ∷ ms) h = ap (λ xs. 0 ∷ xs) (zeroed_is n ms (omega arith))

-- marks whose front was filled with 0
pub filled_marks : (n m : ℕ) (ms zs : List ℕ) → (((y : ℕ) → y ≡ 0 → y ≡ 0) → zs ≡ replicate (length (take m ms)) 0) → m ≡ n → n ≤ length ms → zs ++ drop m ms ≡ zeroed n ms
filled_marks n m ms zs h e le = rw (h (λ y e. e), e, length-take-le n ms le) (zeroed_is n ms le)

pub zeroed-at : (n : ℕ) (ms : List ℕ) (p : ℕ) → p < n → get_or (zeroed n ms) p 0 ≡ 0
unfolding zeroed
zeroed-at zero ms p h = absurd (omega arith)
zeroed-at (suc n) [] p h = refl
zeroed-at (suc n) (m ∷ ms) zero h = refl
zeroed-at (suc n) (m ∷ ms) (suc p) h = zeroed-at n ms p (omega arith)

-- zeroed marks agree with the empty square
pub zeroed-agrees : {E : Type 0} (F : Graph) (n : ℕ) (es : List E) (ms : List ℕ) → Agrees F n es (zeroed (places F n) ms) empty
zeroed-agrees F n es ms = record {
  unmarked = λ i j p here z. refl;
  marked = λ i j p here z. zeroed-at (places F n) ms p (cell_below F n i j p here);
  same = λ i j p e here h. cc;
}
