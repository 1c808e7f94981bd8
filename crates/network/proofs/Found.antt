-- The fields of a sheet stand in the bytes, and so do its bits.
use Rattle.std.proofs.Common.{◌≡◌, ℕ, ◌+◌, ◌-◌, ◌*◌, ◌/◌, ◌%◌, ◌^◌, ◌<◌, Bool, List, ◌++◌, length, get_or, sym, refl, ap, ◌∙◌, ⊎_elim, arith, lit<, pow_pos}
use Rattle.std.proofs.lemmas.List.{get_or_past, length-append}
use Rattle.std.proofs.lemmas.Bool.{cases_lt}
use Rattle.network.proofs.Bits.{bit_at-none}
use Rattle.network.proofs.Standing.{length-bits_of, get_or-bits_of, length-spread, Reads, reads-append, reads-left, reads-right, reads-field, field-reads, reads-spread, spread-reads, Holds}
use Rattle.network.specs.Bits.{bit_at}
use Rattle.network.specs.Decode.{place_for, value_at}
use Rattle.network.specs.Fields.{bit_of, field}
use Rattle.network.specs.Sheets.{Sheet, bits_of, spread, bits_in, width, named}

pub record Found (bs : List ℕ) (s : Sheet) : Type 0 where
  pub kind : field bs 0 5 ≡ 1
  pub size : field bs 5 10 ≡ s.size
  pub count : field bs 15 17 ≡ length s.couplings
  pub values : (i : ℕ) → i < length (named s) → value_at bs (width s.size) i ≡ get_or (named s) i 0
  pub long : length bs ≡ (place_for (width s.size) (length (named s)) + 7) / 8
  pub fill : field bs (place_for (width s.size) (length (named s))) (8 * ((place_for (width s.size) (length (named s)) + 7) / 8) - place_for (width s.size) (length (named s))) ≡ 0

-- each number fits its field
pub record Small (s : Sheet) : Type 0 where
  pub size : s.size < 2 ^ 10
  pub count : length s.couplings < 2 ^ 17
  pub values : (i : ℕ) → i < length (named s) → get_or (named s) i 0 < 2 ^ width s.size

then-reads : (bs : List ℕ) (p q w v : ℕ) (y : List Bool) → p + w ≡ q → Reads bs p (bits_of w v ++ y) → Reads bs q y
then-reads bs p q w v y e f i h =
    reads-right bs p (bits_of w v) y f i h ∙ ap (bit_of bs) (omega (arith, length-bits_of w v))

reads_then : (bs : List ℕ) (p q w v : ℕ) (y : List Bool) → p + w ≡ q → field bs p w ≡ v → Reads bs q y → Reads bs p (bits_of w v ++ y)
reads_then bs p q w v y e f g =
    reads-append bs p (bits_of w v) y (reads-field bs p w v f) (λ i h. g i h ∙ ap (bit_of bs) (omega (arith, length-bits_of w v)))

pub length-bits_in : (s : Sheet) → length (bits_in s) ≡ place_for (width s.size) (length (named s))
unfolding bits_in place_for
length-bits_in s =
    let w = width s.size in
    let x = spread w (named s) in
    let m = length s.couplings in
    omega (
      arith,
      length-append (bits_of 5 1) (bits_of 10 s.size ++ (bits_of 17 m ++ x)),
      length-append (bits_of 10 s.size) (bits_of 17 m ++ x),
      length-append (bits_of 17 m) x,
      length-bits_of 5 1,
      length-bits_of 10 s.size,
      length-bits_of 17 m,
      length-spread w (named s),
    )

pub found : (bs : List ℕ) (s : Sheet) → Small s → Holds bs (bits_in s) → Found bs s
unfolding bits_in place_for value_at
found bs s small h =
    let w = width s.size in
    let x = spread w (named s) in
    let m = length s.couplings in
    let t = place_for w (length (named s)) in
    let u = 8 * ((t + 7) / 8) - t in
    let l : length (bits_in s) ≡ t = length-bits_in s in
    let r0 : Reads bs 0 (bits_of 5 1 ++ (bits_of 10 s.size ++ (bits_of 17 m ++ x))) = h.reads in
    let r1 : Reads bs 5 (bits_of 10 s.size ++ (bits_of 17 m ++ x)) = then-reads bs 0 5 5 1 _ refl r0 in
    let r2 : Reads bs 15 (bits_of 17 m ++ x) = then-reads bs 5 15 10 s.size _ refl r1 in
    let r3 : Reads bs 32 x = then-reads bs 15 32 17 m _ refl r2 in
    record {
      kind = field-reads bs 0 5 1 (lit< tt) (reads-left bs 0 (bits_of 5 1) _ r0);
      size = field-reads bs 5 10 s.size small.size (reads-left bs 5 (bits_of 10 s.size) _ r1);
      count = field-reads bs 15 17 m small.count (reads-left bs 15 (bits_of 17 m) _ r2);
      values = spread-reads bs 32 w (named s) r3 small.values;
      long = h.long ∙ ap (λ (y : ℕ). (y + 7) / 8) l;
      fill = field-reads bs t u 0 (pow_pos u) (λ i hi.
          get_or-bits_of u 0 i (omega (arith, length-bits_of u 0)) ∙ bit_at-none _ ∙ sym (h.fill (t + i) (omega arith)));
    }

pub holds : (bs : List ℕ) (s : Sheet) → Found bs s → Holds bs (bits_in s)
unfolding bits_in place_for value_at bit_of
holds bs s f =
    let w = width s.size in
    let x = spread w (named s) in
    let m = length s.couplings in
    let t = place_for w (length (named s)) in
    let u = 8 * ((t + 7) / 8) - t in
    let l : length (bits_in s) ≡ t = length-bits_in s in
    let r3 : Reads bs 32 x = reads-spread bs 32 w (named s) f.values in
    let z : Reads bs t (bits_of u 0) = reads-field bs t u 0 f.fill in
    record {
      reads = reads_then bs 0 5 5 1 _ refl f.kind (reads_then bs 5 15 10 s.size _ refl f.size (reads_then bs 15 32 17 m _ refl f.count r3));
      long = f.long ∙ ap (λ (y : ℕ). (y + 7) / 8) (sym l);
      fill = λ i hi. ⊎_elim
          (λ lt. ap (bit_of bs) (omega arith) ∙ sym (z (i - t) (omega (arith, length-bits_of u 0, f.long)))
          ∙ get_or-bits_of u 0 (i - t) (omega (arith, length-bits_of u 0, f.long)) ∙ bit_at-none _)
          (λ ge. ap (λ (y : ℕ). bit_at y (7 - i % 8)) (get_or_past bs (i / 8) 0 (omega arith)) ∙ bit_at-none _)
          (cases_lt i (8 * length bs));
    }
