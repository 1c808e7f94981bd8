-- Bits that are written one part after another.
use Rattle.std.proofs.Common.{◌≡◌, ℕ, zero, suc, ◌+◌, ◌-◌, ◌*◌, ◌/◌, ◌%◌, ◌<◌, ◌≤◌, Bool, true, false, cond, List, [], ◌∷◌, ◌++◌, length, get_or, replicate, sym, refl, ap, ◌∙◌, subst, ⊎_elim, append_assoc, add-one, arith}
use Rattle.std.proofs.lemmas.List.{get_or_append_left, get_or-append_right, get_or_past, get_or-replicate, length-append, length-replicate, append-nil}
use Rattle.std.proofs.lemmas.Bool.{cases_lt}
use Rattle.network.proofs.Bits.{bit_at-none}
use Rattle.network.proofs.Standing.{length-bits_of, get_or-bits_of, length-spread, holds-pack, Holds}
use Rattle.network.proofs.Trips.{length-flat}
use Rattle.network.specs.declared.bit_fields.BitWriter.{BitWriter}
use Rattle.network.specs.Bits.{bit_at}
use Rattle.network.specs.Fields.{bit_of, Written}
use Rattle.network.specs.Laws.{Bytes}
use Rattle.network.specs.Sheets.{bits_of, spread, flat, pack, row_to, pairs_to}
use Rattle.network.specs.Writing.{WrittenBits, Puts, head_bits, pair_bits}

-- ---- one part after another

wrote-both : {bs cs ds : List ℕ} {p q : ℕ} (x y : List Bool) → WrittenBits bs cs p x → q ≡ p + length x → WrittenBits cs ds q y → WrittenBits bs ds p (x ++ y)
wrote-both {bs} {cs} {ds} {p} {q} x y s e t = record {
  inside = λ k h. ⊎_elim
      (λ lt. t.before (p + k) (omega arith) ∙ s.inside k lt ∙ sym (get_or_append_left x y false k lt))
      (λ ge. ap (bit_of ds) (omega arith) ∙ t.inside (k - length x) (omega (arith, length-append x y)) ∙ sym (get_or-append_right x y (length x) k false refl ge))
      (cases_lt k (length x));
  before = λ i h. t.before i (omega arith) ∙ s.before i h;
  after = λ i h. t.after i (omega (arith, length-append x y)) ∙ s.after i (omega (arith, length-append x y));
}

pub puts_none : (writer : BitWriter) → Puts writer writer []
puts_none writer = record {
  lender = refl;
  place = omega arith;
  size = refl;
  written = record { inside = λ k h. absurd (omega arith); before = λ i h. refl; after = λ i h. refl };
}

pub puts-both : {old mid new : BitWriter} (x y : List Bool) → Puts old mid x → Puts mid new y → Puts old new (x ++ y)
puts-both x y s t = record {
  lender = t.lender ∙ s.lender;
  place = omega (arith, s.place, t.place, length-append x y);
  size = t.size ∙ s.size;
  written = wrote-both x y s.written s.place t.written;
}

pub puts-field : (old new : BitWriter) {w v : ℕ} → new.bytes.ghost_name ≡ old.bytes.ghost_name → new.at ≡ old.at + w → length new.bytes.now ≡ length old.bytes.now
    → Written old.bytes.now new.bytes.now old.at w v w → Puts old new (bits_of w v)
puts-field old new {w} {v} same place size so = record {
  lender = same;
  place = omega (arith, length-bits_of w v);
  size = size;
  written = record {
    inside = λ k h. let lt : k < w = omega (arith, length-bits_of w v) in so.inside k lt ∙ sym (get_or-bits_of w v k lt);
    before = so.before;
    after = λ i h. so.after i (omega (arith, length-bits_of w v));
  };
}

-- ---- the header, stations and couplings

pub length-head_bits : (n m : ℕ) → length (head_bits n m) ≡ 32
unfolding head_bits
length-head_bits n m =
    omega (arith, length-append (bits_of 5 1) (bits_of 10 n ++ bits_of 17 m), length-append (bits_of 10 n) (bits_of 17 m), length-bits_of 5 1, length-bits_of 10 n, length-bits_of 17 m)

pub puts-head : {a b c d : BitWriter} (n m : ℕ) → Puts a b (bits_of 5 1) → Puts b c (bits_of 10 n) → Puts c d (bits_of 17 m) → Puts a d (head_bits n m)
unfolding head_bits
puts-head n m s t u = puts-both (bits_of 5 1) (bits_of 10 n ++ bits_of 17 m) s (puts-both (bits_of 10 n) (bits_of 17 m) t u)

pub spread-append : (w : ℕ) (us vs : List ℕ) → spread w (us ++ vs) ≡ spread w us ++ spread w vs
unfolding spread
spread-append w [] vs = refl
spread-append w (u ∷ us) vs = ap (λ l. bits_of w u ++ l) (spread-append w us vs) ∙ sym (append_assoc (bits_of w u) (spread w us) (spread w vs))

pub spread_none : (w : ℕ) → spread w [] ≡ []
unfolding spread
spread_none w = refl

spread-one : (w v : ℕ) → spread w (v ∷ []) ≡ bits_of w v
unfolding spread
spread-one w v = append-nil (bits_of w v)

-- one station more
pub puts-station : {old mid new : BitWriter} (w : ℕ) (vs : List ℕ) (v : ℕ) → Puts old mid (spread w vs) → Puts mid new (bits_of w v) → Puts old new (spread w (vs ++ v ∷ []))
puts-station {old} {mid} {new} w vs v s t =
    subst (Puts old new) (ap (λ l. spread w vs ++ l) (sym (spread-one w v)) ∙ sym (spread-append w vs (v ∷ []))) (puts-both (spread w vs) (bits_of w v) s t)

flat_append : (ps qs : List (ℕ × ℕ)) → flat (ps ++ qs) ≡ flat ps ++ flat qs
unfolding flat
flat_append [] qs = refl
flat_append (p ∷ ps) qs = ap (λ l. p.0 ∷ (p.1 ∷ l)) (flat_append ps qs)

pair_bits-append : (w : ℕ) (ps qs : List (ℕ × ℕ)) → pair_bits w (ps ++ qs) ≡ pair_bits w ps ++ pair_bits w qs
unfolding pair_bits
pair_bits-append w ps qs = ap (spread w) (flat_append ps qs) ∙ spread-append w (flat ps) (flat qs)

pub length-pair_bits : (w : ℕ) (ps : List (ℕ × ℕ)) → length (pair_bits w ps) ≡ w * (2 * length ps)
unfolding pair_bits
length-pair_bits w ps = length-spread w (flat ps) ∙ ap (λ (x : ℕ). w * x) (length-flat ps)

pub puts-pair : {a b c : BitWriter} (w larger smaller : ℕ) → Puts a b (bits_of w larger) → Puts b c (bits_of w smaller) → Puts a c (pair_bits w ((larger, smaller) ∷ []))
unfolding pair_bits flat spread
puts-pair {a} {b} {c} w larger smaller s t =
    subst (λ l. Puts a c (bits_of w larger ++ l)) (sym (spread-one w smaller)) (puts-both (bits_of w larger) (bits_of w smaller) s t)

-- ---- rows of couplings

pub row-none : (w : ℕ) (C : ℕ → ℕ → Bool) (a : ℕ) → pair_bits w (row_to C a 0) ≡ []
unfolding pair_bits row_to flat spread
row-none w C a = refl

pub row-yes : (w : ℕ) (C : ℕ → ℕ → Bool) (a b : ℕ) → C a b ≡ true → pair_bits w (row_to C a (b + 1)) ≡ pair_bits w (row_to C a b) ++ pair_bits w ((a, b) ∷ [])
unfolding row_to
row-yes w C a b h = rw add-one (ap (λ t. pair_bits w (row_to C a b ++ cond t ((a, b) ∷ []) [])) h ∙ pair_bits-append w (row_to C a b) ((a, b) ∷ []))

pub row-no : (w : ℕ) (C : ℕ → ℕ → Bool) (a b : ℕ) → C a b ≡ false → pair_bits w (row_to C a (b + 1)) ≡ pair_bits w (row_to C a b)
unfolding row_to
row-no w C a b h = rw add-one (ap (λ t. pair_bits w (row_to C a b ++ cond t ((a, b) ∷ []) [])) h ∙ ap (pair_bits w) (append-nil (row_to C a b)))

row-le : (w : ℕ) (C : ℕ → ℕ → Bool) (a b d : ℕ) → b ≤ d → length (pair_bits w (row_to C a b)) ≤ length (pair_bits w (row_to C a d))
unfolding row_to
row-le w C a b zero h = let e : b ≡ 0 = omega arith in omega (arith, ap (λ (x : ℕ). length (pair_bits w (row_to C a x))) e)
row-le w C a b (suc d) h =
    let one : List (ℕ × ℕ) = cond (C a d) ((a, d) ∷ []) [] in
    ⊎_elim
    (λ lt. omega (arith, ap length (pair_bits-append w (row_to C a d) one), length-append (pair_bits w (row_to C a d)) (pair_bits w one), row-le w C a b d (omega arith)))
    (λ ge. let e : b ≡ suc d = omega arith in omega (arith, ap (λ (x : ℕ). length (pair_bits w (row_to C a x))) e))
    (cases_lt b (suc d))

-- a coupling of a row has room where the row has
pub row_room : (w : ℕ) (C : ℕ → ℕ → Bool) (a b : ℕ) → b < a → C a b ≡ true
    → length (pair_bits w (row_to C a b)) + length (pair_bits w ((a, b) ∷ [])) ≤ length (pair_bits w (row_to C a a))
row_room w C a b lt h =
    omega (arith, row-le w C a (b + 1) a (omega arith), ap length (row-yes w C a b h), length-append (pair_bits w (row_to C a b)) (pair_bits w ((a, b) ∷ [])))

-- ---- all couplings

pub pairs-none : (w : ℕ) (C : ℕ → ℕ → Bool) → pair_bits w (pairs_to C 0) ≡ []
unfolding pair_bits pairs_to flat spread
pairs-none w C = refl

pub pairs-more : (w : ℕ) (C : ℕ → ℕ → Bool) (a : ℕ) → pair_bits w (pairs_to C (a + 1)) ≡ pair_bits w (pairs_to C a) ++ pair_bits w (row_to C a a)
unfolding pairs_to
pairs-more w C a = rw add-one (pair_bits-append w (pairs_to C a) (row_to C a a))

pairs-le : (w : ℕ) (C : ℕ → ℕ → Bool) (a n : ℕ) → a ≤ n → length (pair_bits w (pairs_to C a)) ≤ length (pair_bits w (pairs_to C n))
unfolding pairs_to
pairs-le w C a zero h = let e : a ≡ 0 = omega arith in omega (arith, ap (λ (x : ℕ). length (pair_bits w (pairs_to C x))) e)
pairs-le w C a (suc n) h =
    ⊎_elim
    (λ lt. omega (arith, ap length (pair_bits-append w (pairs_to C n) (row_to C n n)), length-append (pair_bits w (pairs_to C n)) (pair_bits w (row_to C n n)), pairs-le w C a n (omega arith)))
    (λ ge. let e : a ≡ suc n = omega arith in omega (arith, ap (λ (x : ℕ). length (pair_bits w (pairs_to C x))) e))
    (cases_lt a (suc n))

-- a row has room where all couplings have
pub pairs-room : (w : ℕ) (C : ℕ → ℕ → Bool) (a n : ℕ) → a < n → length (pair_bits w (pairs_to C a)) + length (pair_bits w (row_to C a a)) ≤ length (pair_bits w (pairs_to C n))
pairs-room w C a n lt =
    omega (arith, pairs-le w C (a + 1) n (omega arith), ap length (pairs-more w C a), length-append (pair_bits w (pairs_to C a)) (pair_bits w (row_to C a a)))

-- ---- all bits

zero-at : (n k : ℕ) → get_or {A = ℕ} (replicate n 0) k 0 ≡ 0
zero-at n k =
    ⊎_elim (λ lt. get_or-replicate n k 0 0 lt) (λ ge. get_or_past (replicate n 0) k 0 (omega (arith, length-replicate {A = ℕ} n 0))) (cases_lt k n)

-- bits that are written into zero bytes, just as many as they need
pub wrote-pack : (n p : ℕ) (bs cs : List ℕ) (bits : List Bool) → bs ≡ replicate n 0 → p ≡ 0 → Bytes cs → length cs ≡ (length bits + 7) / 8 → WrittenBits bs cs p bits → cs ≡ pack bits
unfolding bit_of
wrote-pack n p bs cs bits zeros start bytes long so =
    let it : Holds cs bits = record {
      reads = λ i h. sym (so.inside i h) ∙ ap (λ (x : ℕ). bit_of cs (x + i)) start;
      long = long;
      fill = λ i h. so.after i (omega arith) ∙ ap (λ (l : List ℕ). bit_at (get_or l (i / 8) 0) (7 - i % 8)) zeros ∙ ap (λ (x : ℕ). bit_at x (7 - i % 8)) (zero-at n (i / 8)) ∙ bit_at-none _;
    } in
    sym (holds-pack cs bits bytes it)
