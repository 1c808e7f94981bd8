-- A sheet's coupling k, as a walk over them takes it: what is read there, and whether it comes after the one before it.
use Rattle.std.proofs.Common.{◌≡◌, ℕ, zero, suc, ◌+◌, ◌-◌, ◌*◌, Bool, true, false, cond, ◌&&◌, ◌||◌, eqb, ltb, List, Some, None, Ok, Err, Option, Result, sym, refl, ap, ap₂, ◌∙◌, arith}
use Rattle.std.proofs.lemmas.Bool.{ne_eqb}
use Rattle.network.specs.Decode.{value_at, place_for, pair_fault}
use Rattle.network.specs.Fields.{field, is_in}
use Rattle.network.specs.Parts.{pair_in, has_risen}
use Rattle.network.specs.Refusals.{Fault, at, refuse}
use Rattle.network.specs.Sheets.{before}
use Rattle.network.proofs.Places.{place-next}

-- none before the first
abbrev pub pair_before : List ℕ → ℕ → ℕ → Option (ℕ × ℕ)
pair_before bs w zero = None
pair_before bs w (suc k) = Some (value_at bs w (2 * k), value_at bs w (2 * k + 1))

abbrev pair : List ℕ → ℕ → ℕ → ℕ × ℕ
pair bs w k = (value_at bs w (2 * k), value_at bs w (2 * k + 1))

risen_is : (bs : List ℕ) (w k : ℕ) → has_risen (pair_before bs w k) (pair bs w k)
    ≡ (eqb k 0 || before (value_at bs w (2 * k - 2)) (value_at bs w (2 * k - 1)) (value_at bs w (2 * k)) (value_at bs w (2 * k + 1)))
risen_is bs w zero = refl
risen_is bs w (suc k) =
    let e : 2 * suc k - 2 ≡ 2 * k = omega arith in
    let d : 2 * suc k - 1 ≡ 2 * k + 1 = omega arith in
    rw (e, d, ne_eqb (suc k) 0 (λ q. omega arith)) refl

-- the four tests of a coupling: two fields whole, a larger and a smaller station, rising
abbrev read : Bool → Bool → Bool → ℕ × ℕ → Fault → Fault → Fault → Result (ℕ × ℕ) Fault
read b1 b2 b3 v f1 f2 f3 = cond b1 (cond b2 (cond b3 (Ok v) (Err f3)) (Err f2)) (Err f1)

abbrev judged : Bool → Bool → Bool → Bool → Fault → Fault → Fault → Fault → Option Fault
judged b1 b2 b3 b4 f1 f2 f3 f4 = cond b1 (cond b2 (cond b3 (cond b4 None (Some f4)) (Some f3)) (Some f2)) (Some f1)

unread : (b1 b2 b3 b4 : Bool) (v : ℕ × ℕ) (f1 f2 f3 f4 f : Fault) → Err f ≡ read b1 b2 b3 v f1 f2 f3 → judged b1 b2 b3 b4 f1 f2 f3 f4 ≡ Some f
unread false b2 b3 b4 v f1 f2 f3 f4 f h = cc
unread true false b3 b4 v f1 f2 f3 f4 f h = cc
unread true true false b4 v f1 f2 f3 f4 f h = cc
unread true true true b4 v f1 f2 f3 f4 f h = absurd (let z : ◌≡◌ {A = ℕ} 0 1 = cc in omega arith)

was-read : (b1 b2 b3 b4 : Bool) (u v : ℕ × ℕ) (f1 f2 f3 f4 : Fault) → Ok u ≡ read b1 b2 b3 v f1 f2 f3 → (u ≡ v) × (judged b1 b2 b3 b4 f1 f2 f3 f4 ≡ cond b4 None (Some f4))
was-read false b2 b3 b4 u v f1 f2 f3 f4 h = absurd (let z : ◌≡◌ {A = ℕ} 0 1 = cc in omega arith)
was-read true false b3 b4 u v f1 f2 f3 f4 h = absurd (let z : ◌≡◌ {A = ℕ} 0 1 = cc in omega arith)
was-read true true false b4 u v f1 f2 f3 f4 h = absurd (let z : ◌≡◌ {A = ℕ} 0 1 = cc in omega arith)
was-read true true true b4 u v f1 f2 f3 f4 h = (cc, refl)

abbrev whole : List ℕ → ℕ → ℕ → Bool
whole bs w i = is_in bs (place_for w i) w

abbrev falls : List ℕ → ℕ → ℕ → ℕ → Bool
falls bs n w k = ltb (value_at bs w (2 * k)) n && ltb (value_at bs w (2 * k + 1)) (value_at bs w (2 * k))

abbrev rises : List ℕ → ℕ → ℕ → Bool
rises bs w k = eqb k 0 || before (value_at bs w (2 * k - 2)) (value_at bs w (2 * k - 1)) (value_at bs w (2 * k)) (value_at bs w (2 * k + 1))

read_is : (bs : List ℕ) (n w k p : ℕ) → p ≡ place_for w (2 * k)
    → pair_in bs n w p ≡ read (whole bs w (2 * k)) (whole bs w (2 * k + 1)) (falls bs n w k) (pair bs w k) (at 1 (place_for w (2 * k))) (at 1 (place_for w (2 * k + 1))) (at 5 (place_for w (2 * k)))
unfolding pair_in value_at
read_is bs n w k p e =
    let P : ℕ = place_for w (2 * k) in
    ap (pair_in bs n w) e
    ∙ ap (λ (q : ℕ). cond (is_in bs P w) (cond (is_in bs q w) (cond (ltb (field bs P w) n && ltb (field bs q w) (field bs P w)) (Ok (field bs P w, field bs q w)) (Err (at 5 P))) (Err (at 1 q))) (Err (at 1 P)))
    (sym (place-next w (2 * k)))

-- a coupling that cannot be read is a fault
pub pair-unread : (bs : List ℕ) (n w k p : ℕ) (f : Fault) → p ≡ place_for w (2 * k) → Err f ≡ pair_in bs n w p → pair_fault bs n w k ≡ Some f
unfolding pair_fault
pair-unread bs n w k p f e h =
    unread (whole bs w (2 * k)) (whole bs w (2 * k + 1)) (falls bs n w k) (rises bs w k) (pair bs w k) (at 1 (place_for w (2 * k))) (at 1 (place_for w (2 * k + 1))) (at 5 (place_for w (2 * k))) (at 6 (place_for w (2 * k))) f
    (h ∙ read_is bs n w k p e)

-- of one that was read it is left to see whether it rises
pub pair-read : (bs : List ℕ) (n w k p : ℕ) (u : ℕ × ℕ) → p ≡ place_for w (2 * k) → Ok u ≡ pair_in bs n w p
    → (u ≡ (value_at bs w (2 * k), value_at bs w (2 * k + 1))) × (pair_fault bs n w k ≡ cond (has_risen (pair_before bs w k) u) None (refuse 6 p))
unfolding pair_fault
pair-read bs n w k p u e h =
    let got = was-read (whole bs w (2 * k)) (whole bs w (2 * k + 1)) (falls bs n w k) (rises bs w k) u (pair bs w k) (at 1 (place_for w (2 * k))) (at 1 (place_for w (2 * k + 1))) (at 5 (place_for w (2 * k))) (at 6 (place_for w (2 * k)))
    (h ∙ read_is bs n w k p e) in (
      got.0,
      got.1 ∙ ap₂ (λ (b : Bool) (q : ℕ). cond b None (refuse 6 q)) (sym (ap (has_risen (pair_before bs w k)) got.0 ∙ risen_is bs w k)) (sym e),
    )
