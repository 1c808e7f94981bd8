-- Bits that stand at a place of the bytes.
use Rattle.std.proofs.Common.{◌≡◌, ℕ, zero, suc, ◌+◌, ◌-◌, ◌*◌, ◌/◌, ◌%◌, ◌^◌, ◌<◌, ◌≤◌, Bool, true, false, cond, eqb, List, [], ◌∷◌, ◌++◌, length, get_or, sym, refl, ap, ◌∙◌, ⊎_elim, pow-suc, mul-suc, arith}
use Rattle.std.proofs.lemmas.List.{get_or_append_left, get_or-append_right, get_or-append-add, get_or_past, length-append}
use Rattle.std.proofs.lemmas.List.FromFn.{length-map-range_with_len, get_or-map-range_with_len}
use Rattle.std.proofs.lemmas.Bool.{cases_lt, cases_eq, eq-eqb, ne_eqb}
use Rattle.network.proofs.Bits.{bit_at-zero, bit_at-suc, bit_at-none, bit_le}
use Rattle.network.proofs.Fields.{bit-field, field-written, same_bytes}
use Rattle.network.specs.Bits.{bit_at}
use Rattle.network.specs.Fields.{bit_of, field, Written}
use Rattle.network.specs.Laws.{Bytes}
use Rattle.network.specs.Sheets.{bits_of, spread, value_of, pack}

pub length-bits_of : (w v : ℕ) → length (bits_of w v) ≡ w
unfolding bits_of
length-bits_of zero v = refl
length-bits_of (suc w) v = ap suc (length-bits_of w v)

pub get_or-bits_of : (w v k : ℕ) → k < w → get_or (bits_of w v) k false ≡ bit_at v (w - 1 - k)
unfolding bits_of
get_or-bits_of zero v k h = absurd (omega arith)
get_or-bits_of (suc w) v zero h = ap (bit_at v) (omega arith)
get_or-bits_of (suc w) v (suc k) h = get_or-bits_of w v k (omega arith) ∙ ap (bit_at v) (omega arith)

pub length-spread : (w : ℕ) (vs : List ℕ) → length (spread w vs) ≡ w * length vs
unfolding spread
length-spread w [] = omega arith
length-spread w (v ∷ vs) =
    length-append (bits_of w v) (spread w vs) ∙ omega (arith, length-bits_of w v, length-spread w vs, mul-suc w (length vs))

-- the bits stand in the bytes from the place p on
abbrev pub Reads : List ℕ → ℕ → List Bool → Type 0
Reads bs p bits = (i : ℕ) → i < length bits → get_or bits i false ≡ bit_of bs (p + i)

pub reads-append : (bs : List ℕ) (p : ℕ) (x y : List Bool) → Reads bs p x → Reads bs (p + length x) y → Reads bs p (x ++ y)
reads-append bs p x y f g i h =
    ⊎_elim (λ lt. get_or_append_left x y false i lt ∙ f i lt)
    (λ ge. get_or-append_right x y (length x) i false refl ge ∙ g (i - length x) (omega (arith, length-append x y)) ∙ ap (bit_of bs) (omega arith))
    (cases_lt i (length x))

pub reads-left : (bs : List ℕ) (p : ℕ) (x y : List Bool) → Reads bs p (x ++ y) → Reads bs p x
reads-left bs p x y f i h = sym (get_or_append_left x y false i h) ∙ f i (omega (arith, length-append x y))

pub reads-right : (bs : List ℕ) (p : ℕ) (x y : List Bool) → Reads bs p (x ++ y) → Reads bs (p + length x) y
reads-right bs p x y f i h =
    sym (get_or-append-add x y i false) ∙ f (length x + i) (omega (arith, length-append x y)) ∙ ap (bit_of bs) (omega arith)

pub reads-field : (bs : List ℕ) (p w v : ℕ) → field bs p w ≡ v → Reads bs p (bits_of w v)
reads-field bs p w v e i h =
    let hi : i < w = omega (arith, length-bits_of w v) in
    get_or-bits_of w v i hi ∙ ap (λ (x : ℕ). bit_at x (w - 1 - i)) (sym e) ∙ bit-field bs p w i hi

pub field-reads : (bs : List ℕ) (p w v : ℕ) → v < 2 ^ w → Reads bs p (bits_of w v) → field bs p w ≡ v
field-reads bs p w v hv f =
    let so : Written bs bs p w v w = record {
      inside = λ k h. sym (f k (omega (arith, length-bits_of w v))) ∙ get_or-bits_of w v k h;
      before = λ i h. refl;
      after = λ i h. refl;
    } in
    field-written hv so

pub reads-spread : (bs : List ℕ) (p w : ℕ) (vs : List ℕ) → ((i : ℕ) → i < length vs → field bs (p + w * i) w ≡ get_or vs i 0) → Reads bs p (spread w vs)
unfolding spread
reads-spread bs p w [] f = λ i h. absurd (omega arith)
reads-spread bs p w (v ∷ vs) f =
    let first : field bs p w ≡ v = ap (λ (x : ℕ). field bs x w) (omega arith) ∙ f 0 (omega arith) in
    let rest : Reads bs (p + length (bits_of w v)) (spread w vs) =
    reads-spread bs (p + length (bits_of w v)) w vs
    (λ i h. ap (λ (x : ℕ). field bs x w) (omega (arith, mul-suc w i, length-bits_of w v)) ∙ f (suc i) (omega arith)) in
    reads-append bs p (bits_of w v) (spread w vs) (reads-field bs p w v first) rest

pub spread-reads : (bs : List ℕ) (p w : ℕ) (vs : List ℕ) → Reads bs p (spread w vs) → ((i : ℕ) → i < length vs → get_or vs i 0 < 2 ^ w)
    → (i : ℕ) → i < length vs → field bs (p + w * i) w ≡ get_or vs i 0
unfolding spread
spread-reads bs p w [] f small i h = absurd (omega arith)
spread-reads bs p w (v ∷ vs) f small zero h =
    ap (λ (x : ℕ). field bs x w) (omega arith) ∙ field-reads bs p w v (small 0 (omega arith)) (reads-left bs p (bits_of w v) (spread w vs) f)
spread-reads bs p w (v ∷ vs) f small (suc i) h =
    ap (λ (x : ℕ). field bs x w) (omega (arith, mul-suc w i, length-bits_of w v))
    ∙ spread-reads bs (p + length (bits_of w v)) w vs (reads-right bs p (bits_of w v) (spread w vs) f) (λ j hj. small (suc j) (omega arith)) i (omega arith)

-- ---- bits in bytes

value-lt : (f : ℕ → Bool) (p w : ℕ) → value_of f p w < 2 ^ w
unfolding value_of
value-lt f p zero = omega arith
value-lt f p (suc w) = omega (arith, value-lt f p w, pow-suc 2 w, bit_le (f (p + w)))

bit-value : (f : ℕ → Bool) (p w k : ℕ) → k < w → bit_at (value_of f p w) (w - 1 - k) ≡ f (p + k)
unfolding value_of
bit-value f p zero k h = absurd (omega arith)
bit-value f p (suc w) k h =
    ⊎_elim
    (λ e. let z : suc w - 1 - k ≡ 0 = omega arith in
    rw (z, bit_at-zero) (rw e (low (value_of f p w) (f (p + w)))))
    (λ ne. let s : suc w - 1 - k ≡ suc (w - 1 - k) = omega arith in
    rw (s, bit_at-suc) (ap (λ (x : ℕ). bit_at x (w - 1 - k)) (omega (arith, bit_le (f (p + w)))) ∙ bit-value f p w k (omega arith)))
    (cases_eq k w)
  where
    low : (x : ℕ) (b : Bool) → eqb ((x * 2 + cond b 1 0) % 2) 1 ≡ b
    low x true = eq-eqb _ _ (omega arith)
    low x false = ne_eqb _ _ (λ e. omega arith)

pub length-pack : (bits : List Bool) → length (pack bits) ≡ (length bits + 7) / 8
unfolding pack
length-pack bits = length-map-range_with_len _ 0 _

at-pack : (bits : List Bool) (j : ℕ) → j < (length bits + 7) / 8 → get_or (pack bits) j 0 ≡ value_of (λ i. get_or bits i false) (8 * j) 8
unfolding pack
at-pack bits j h = get_or-map-range_with_len (λ x. value_of (λ i. get_or bits i false) (8 * x) 8) 0 _ j j 0 h (omega arith)

pub bytes-pack : (bits : List Bool) → Bytes (pack bits)
bytes-pack bits j h = omega (arith, at-pack bits j (omega (arith, length-pack bits)), value-lt (λ i. get_or bits i false) (8 * j) 8)

pub bit_of-pack : (bits : List Bool) (i : ℕ) → bit_of (pack bits) i ≡ get_or bits i false
unfolding bit_of
bit_of-pack bits i =
    ⊎_elim
    (λ lt. ap (λ (x : ℕ). bit_at x (7 - i % 8)) (at-pack bits (i / 8) lt)
    ∙ bit-value (λ k. get_or bits k false) (8 * (i / 8)) 8 (i % 8) (omega arith)
    ∙ ap (λ (x : ℕ). get_or bits x false) (omega arith))
    (λ ge. ap (λ (x : ℕ). bit_at x (7 - i % 8)) (get_or_past (pack bits) (i / 8) 0 (omega (arith, length-pack bits)))
    ∙ bit_at-none (7 - i % 8) ∙ sym (get_or_past bits i false (omega arith)))
    (cases_lt (i / 8) ((length bits + 7) / 8))

-- the bytes are these bits, with zero bits in the last byte
pub record Holds (bs : List ℕ) (bits : List Bool) : Type 0 where
  pub reads : Reads bs 0 bits
  pub long : length bs ≡ (length bits + 7) / 8
  pub fill : (i : ℕ) → length bits ≤ i → bit_of bs i ≡ false

pub pack-holds : (bits : List Bool) → Holds (pack bits) bits
pack-holds bits = record {
  reads = λ i h. sym (ap (bit_of (pack bits)) (omega arith) ∙ bit_of-pack bits i);
  long = length-pack bits;
  fill = λ i h. bit_of-pack bits i ∙ get_or_past bits i false h;
}

pub holds-pack : (bs : List ℕ) (bits : List Bool) → Bytes bs → Holds bs bits → pack bits ≡ bs
holds-pack bs bits b h =
    same_bytes (pack bits) bs (length-pack bits ∙ sym h.long) (bytes-pack bits) b
    (λ i. bit_of-pack bits i ∙ ⊎_elim
    (λ lt. h.reads i lt ∙ ap (bit_of bs) (omega arith))
    (λ ge. get_or_past bits i false ge ∙ sym (h.fill i ge))
    (cases_lt i (length bits)))
