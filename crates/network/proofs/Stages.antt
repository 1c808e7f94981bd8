-- The checks of a sheet, stage by stage.
use Rattle.std.proofs.Common.{◌≡◌, ℕ, ◌+◌, ◌*◌, List, Some, None, Ok, Err, sym, ap, ◌∙◌, ap₂}
use Rattle.network.proofs.Faults.{or_else-some, or_else-past, unless-err, unless-ok}
use Rattle.network.specs.Decode.{place_for, header_fault, pair_fault, placed_fault, end_fault, body_fault, fault, sheet_of, decode, faultless, Stands}
use Rattle.network.specs.Fields.{field}
use Rattle.network.specs.Refusals.{Fault, or_else, first_fault, unless}
use Rattle.network.specs.Sheets.{width}

pub head-err : (bs : List ℕ) (e : Fault) → Some e ≡ header_fault bs → fault bs ≡ Some e
unfolding fault
head-err bs e h = or_else-some (header_fault bs) _ e (sym h)

pub head_ok : (bs : List ℕ) (n m : ℕ) → None ≡ header_fault bs → n ≡ field bs 5 10 → m ≡ field bs 15 17 → fault bs ≡ body_fault bs n m
unfolding fault
head_ok bs n m none size count = or_else-past (header_fault bs) _ (sym none) ∙ ap₂ (body_fault bs) (sym size) (sym count)

-- ---- stage by stage, with bytes and width as the code has them

module _ (bs cs : List ℕ) (n m w : ℕ) (same : cs ≡ bs) (is : w ≡ width n) where
  pairs-as : first_fault (pair_fault cs n w) m ≡ first_fault (pair_fault bs n (width n)) m
  pairs-as = ap (λ l. first_fault (pair_fault l n w) m) same ∙ ap (λ (x : ℕ). first_fault (pair_fault bs n x) m) is

  pub body-pairs : (e : Fault) → Err e ≡ unless (first_fault (pair_fault cs n w) m) (tt {0}) → body_fault bs n m ≡ Some e
  unfolding body_fault
  body-pairs e h = or_else-some _ _ e (sym pairs-as ∙ unless-err _ (tt {0}) e h)

  pub body-order : Ok (tt {0}) ≡ unless (first_fault (pair_fault cs n w) m) (tt {0})
      → body_fault bs n m ≡ or_else (first_fault (placed_fault bs n w (2 * m)) n) (end_fault bs (place_for w (2 * m + n)))
  unfolding body_fault
  body-order h =
      or_else-past _ _ (sym pairs-as ∙ (unless-ok _ (tt {0}) (tt {0}) h).0)
      ∙ ap (λ (x : ℕ). or_else (first_fault (placed_fault bs n x (2 * m)) n) (end_fault bs (place_for x (2 * m + n)))) (sym is)

-- ---- what the checks say of the whole

pub decode-err : (bs : List ℕ) (e : Fault) → fault bs ≡ Some e → decode bs ≡ Err e
unfolding decode
decode-err bs e h = ap (λ o. unless o (sheet_of bs (field bs 5 10) (field bs 15 17))) h

pub decode-ok : (bs : List ℕ) (n m : ℕ) → n ≡ field bs 5 10 → m ≡ field bs 15 17 → fault bs ≡ None
    → (decode bs ≡ Ok (sheet_of bs n m)) × Stands bs n m
unfolding decode
decode-ok bs n m size count none = (ap₂ unless none (ap₂ (sheet_of bs) (sym size) (sym count)), (ap faultless none, sym size, sym count))
