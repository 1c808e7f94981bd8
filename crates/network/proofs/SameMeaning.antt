-- A sheet and neighbour lists with the same couplings have the same network.
use Rattle.std.proofs.Common.{◌≡◌, ℕ, min, max, Bool, true, ltb, is_some, ap, ◌∙◌, inl, inr, arith}
use mathlib.Core.Path.{fun_ext}
use Rattle.std.proofs.lemmas.Bool.{cases_order, ltb-true}
use Rattle.std.proofs.lemmas.Bool.Decides.{nat_tests}
use Rattle.network.specs.Lists.{list_size, named_in, list_net}
use Rattle.network.specs.ListLaws.{list_lawful}
use Rattle.network.specs.Net.{Net, Lawful}
use Rattle.network.specs.SheetLaws.{SameCouplingsSameMeaning}
use Rattle.network.specs.Sheets.{has_pair, sheet_net}

pub same-meaning : SameCouplingsSameMeaning
same-meaning bs starts names s d none size same =
    let lawful : Lawful (list_net starts names) = list_lawful starts names (ap is_some none) in
    let make : ℕ → (ℕ → ℕ → Bool) → Net = λ n c. record { size = n; coupled = c } in
    let pair : (a b : ℕ) → (sheet_net s).coupled a b ≡ (list_net starts names).coupled a b = λ a b.
    (let y = lawful.symmetric a b in
    let i = lawful.irreflexive a in
    elim (cases_order a b) [
      | inl e ↦ grind (arith, nat_tests)
      | inr (inl lt) ↦
          (let x : max a b ≡ b = omega arith in
          let n : min a b ≡ a = omega arith in
          let h : ltb b s.size ≡ true → has_pair s.couplings b a ≡ named_in starts names b a = λ l. same b a (ltb-true _ _ l) lt in
          grind (arith, nat_tests))
      | inr (inr lt) ↦
          (let x : max a b ≡ a = omega arith in
          let n : min a b ≡ b = omega arith in
          let h : ltb a s.size ≡ true → has_pair s.couplings a b ≡ named_in starts names a b = λ l. same a b (ltb-true _ _ l) lt in
          grind (arith, nat_tests))
    ]) in
    ap (λ (n : ℕ). make n (sheet_net s).coupled) size ∙ ap (make (list_size starts)) (fun_ext (λ a. fun_ext (λ b. pair a b)))
