-- A sheet that was read is written again: what the two calls say together.
use Rattle.std.proofs.Common.{◌≡◌, ℕ, Bool, true, false, cond, ltb, List, ◌++◌, length, take, drop, None, Ok, Err, Result, sym, refl, ap, ◌∙◌, ap₂, arith}
use Rattle.std.specs.Str.{bytes_eq}
use Rattle.std.proofs.lemmas.Slice.Eq.{bytes_eq-Decides}
use Rattle.std.proofs.lemmas.Bool.{le-ltb, cond-false}
use Rattle.network.specs.Decode.{decode, reading, fitting, done}
use Rattle.network.specs.Encode.{bytes_of, write_fault, buffer_after}
use Rattle.network.specs.Laws.{Bytes}
use Rattle.network.specs.Refusals.{Fault, at, refuse, unless}
use Rattle.network.specs.Sheets.{Sheet, sheet_net}
use Rattle.network.proofs.Faults.{or_else-past}
use Rattle.network.proofs.SheetNets.{read-ordered, read-same-sheet, read-same-bytes}
use Rattle.network.proofs.Wells.{read-well}
use Rattle.logger.specs.Reports.{inspected, again_after, report_of}
use Rattle.logger.specs.declared.report.Report.{Report}

-- a list of 512 numbers has room for every order
pub read_whole : (bs : List ℕ) → reading bs 512 ≡ decode bs
read_whole bs = go (decode bs) refl
  where
    go : (r : Result Sheet Fault) → decode bs ≡ r → fitting r 512 ≡ r
    go (Err f) e = refl
    go (Ok s) e = cond-false _ _ _ (le-ltb 512 s.size (read-well bs s e).few)

pub read-refused : (bs : List ℕ) (f : Fault) → Err f ≡ done (reading bs 512) → decode bs ≡ Err f
read-refused bs f h = go (decode bs) (h ∙ ap done (read_whole bs))
  where
    go : (r : Result Sheet Fault) → Err f ≡ done r → r ≡ Err f
    go (Err g) e = cc
    go (Ok s) e = absurd (let z : ◌≡◌ {A = ℕ} 0 1 = cc in omega arith)

pub read-accepted : (bs : List ℕ) → Ok (tt {0}) ≡ done (reading bs 512) → (s : Sheet) × (decode bs ≡ Ok s)
read-accepted bs h = go (decode bs) (h ∙ ap done (read_whole bs)) refl
  where
    go : (r : Result Sheet Fault) → Ok (tt {0}) ≡ done r → decode bs ≡ r → (s : Sheet) × (decode bs ≡ Ok s)
    go (Err g) e q = absurd (let z : ◌≡◌ {A = ℕ} 0 1 = cc in omega arith)
    go (Ok s) e q = (s, q)

-- the sheet s was read from the bytes, and is written over old
module _ (bs : List ℕ) (s : Sheet) (b : Bytes bs) (d : decode bs ≡ Ok s) (old : List ℕ) where
  write-fault : write_fault (sheet_net s) s.order (length old) ≡ cond (ltb (length old) (length bs)) (refuse 16 (length bs)) None
  unfolding write_fault
  write-fault =
      or_else-past _ _ (read-ordered bs s d)
      ∙ ap (λ bytes. cond (ltb (length old) (length bytes)) (refuse 16 (length bytes)) None) (read-same-bytes bs s b d)

  report-is : report_of (sheet_net s) s.order bs ≡ record { stations = s.size; couplings = length s.couplings; bytes = length bs; same = true }
  report-is =
      let make : List (ℕ × ℕ) → List ℕ → Report = λ pairs bytes. record { stations = s.size; couplings = length pairs; bytes = length bytes; same = bytes_eq bs bytes } in
      let same : bytes_eq bs bs ≡ true = (bytes_eq-Decides bs bs).1 refl in
      ap₂ make (ap (λ (t : Sheet). t.couplings) (read-same-sheet bs s d)) (read-same-bytes bs s b d)
      ∙ ap (λ (t : Bool). record { stations = s.size; couplings = length s.couplings; bytes = length bs; same = t }) same

  -- it stands in the place p, and its order is the front of the list
  module _ (p : Sheet) (n : ℕ) (list : List ℕ) (size : n ≡ p.size) (held : p ≡ s) (kept : take s.size list ≡ s.order) where
    order : take n list ≡ s.order
    order = ap (λ (k : ℕ). take k list) (size ∙ ap (λ (t : Sheet). t.size) held) ∙ kept

    pub outcome-is : unless (write_fault (sheet_net p) (take n list) (length old)) (report_of (sheet_net p) (take n list) bs) ≡ inspected (decode bs) bs (length old)
    outcome-is =
        ap₂ (λ (t : Sheet) (xs : List ℕ). unless (write_fault (sheet_net t) xs (length old)) (report_of (sheet_net t) xs bs)) held order
        ∙ ap₂ unless write-fault report-is ∙ checked _ (ltb (length old) (length bs)) ∙ sym (ap (λ r. inspected r bs (length old)) d)
      where
        checked : (r : Report) (t : Bool) → unless (cond t (refuse 16 (length bs)) None) r ≡ cond t (Err (at 16 (length bs))) (Ok r)
        checked r true = refl
        checked r false = refl

    pub buffer-is : buffer_after (write_fault (sheet_net p) (take n list) (length old)) (bytes_of (sheet_net p) (take n list)) old ≡ again_after (decode bs) bs old
    buffer-is =
        ap₂ (λ (t : Sheet) (xs : List ℕ). buffer_after (write_fault (sheet_net t) xs (length old)) (bytes_of (sheet_net t) xs) old) held order
        ∙ ap₂ (λ o bytes. buffer_after o bytes old) write-fault (read-same-bytes bs s b d)
        ∙ left (ltb (length old) (length bs)) ∙ sym (ap (λ r. again_after r bs old) d)
      where
        left : (t : Bool) → buffer_after (cond t (refuse 16 (length bs)) None) bs old ≡ cond t old (bs ++ drop (length bs) old)
        left true = refl
        left false = refl
