-- The network of a sheet is lawful: what the ghost member of its implementation cites.
use Rattle.std.specs.Prelude.{◌≡◌, ℕ, ◌≤◌, min, max, Bool, true, false, not, ◌&&◌, List, ◌==◌, nat_lt, refl}
use Rattle.std.proofs.Common.{sym, ap, ap₂, ◌∙◌, inl, inr}
use Rattle.std.proofs.Math.Nat.{max_comm, min_comm}
use Rattle.std.proofs.lemmas.Bool.{cases_eq, eq-eqb, ne_eqb, and_parts, ltb-true}
use Rattle.network.specs.Decode.{sheet_of, couplings_of, order_of}
use Rattle.network.specs.Net.{Lawful}
use Rattle.network.specs.Sheets.{Sheet, sheet_net, has_pair}

-- the same test of two numbers, whichever comes first
eqb_swap : (a b : ℕ) → (a == b) ≡ (b == a)
eqb_swap a b =
    elim (cases_eq a b) [
      | inl e ↦ eq-eqb a b e ∙ sym (eq-eqb b a (sym e))
      | inr d ↦ ne_eqb a b d ∙ sym (ne_eqb b a (λ e. d (sym e)))
    ]

and-swap : (x y z : Bool) → (x && (y && z)) ≡ (y && (x && z))
and-swap true true z = refl
and-swap true false z = refl
and-swap false true z = refl
and-swap false false z = refl

and_none : (x y : Bool) → (x && (y && false)) ≡ false
and_none true true = refl
and_none true false = refl
and_none false y = refl

pub sheet-lawful : (s : Sheet) → 1 ≤ s.size → s.size ≤ 512 → Lawful (sheet_net s)
sheet-lawful s some few =
    let n = s.size in
    let ps = s.couplings in
    record {
      some = some;
      few = few;
      symmetric = λ a b.
          ap (λ x. nat_lt a n && (nat_lt b n && (not x && has_pair ps (max a b) (min a b)))) (eqb_swap a b)
          ∙ ap₂ (λ (x y : ℕ). nat_lt a n && (nat_lt b n && (not (b == a) && has_pair ps x y))) (max_comm a b) (min_comm a b)
          ∙ and-swap (nat_lt a n) (nat_lt b n) (not (b == a) && has_pair ps (max b a) (min b a));
      irreflexive = λ a.
          ap (λ x. nat_lt a n && (nat_lt a n && (not x && has_pair ps (max a a) (min a a)))) (eq-eqb a a refl)
          ∙ and_none (nat_lt a n) (nat_lt a n);
      within = λ a b e. ltb-true a n (and_parts (nat_lt a n) (nat_lt b n && (not (a == b) && has_pair ps (max a b) (min a b))) e).0;
    }

pub standing-lawful : (bs : List ℕ) (n m : ℕ) → 1 ≤ n → n ≤ 512 → Lawful (sheet_net (sheet_of bs n m))
unfolding couplings_of order_of
standing-lawful bs n m some few = sheet-lawful (sheet_of bs n m) some few
