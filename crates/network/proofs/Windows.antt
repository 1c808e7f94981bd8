-- A field written into a window of three bytes.
use Rattle.std.proofs.Common.{◌≡◌, ℕ, ◌+◌, ◌-◌, ◌*◌, ◌/◌, ◌%◌, ◌^◌, ◌<◌, ◌≤◌, Bool, true, false, cond, ◌&&◌, ◌||◌, ltb, leb, ◌≢◌, ◌⊎◌, List, length, get_or, set, sym, refl, ap, ◌∙◌, subst, ap₂, inl, inr, ⊎_elim, lt_of_lt_of_le, lt_of_le_of_lt, arith, pow_mono}
use lib.Bits.{bit_and, bit_or, or_lt, and_le_l}
use lib.Pow.{ones_lt}
use Rattle.std.proofs.lemmas.Bool.{cases_lt, lt-ltb, le-leb, lt-leb, ltb-false, cases_eq}
use Rattle.std.proofs.lemmas.Bool.Decides.{nat_tests}
use Rattle.std.proofs.lemmas.List.{get_or-set_same, get_or-set_other, get_or_past, length-set}
use Rattle.std.proofs.lemmas.Nat.{one_shl, shl_whole, shl_below}
use Rattle.network.specs.Bits.{bit_at}
use Rattle.network.proofs.Bits.{bit_at-or, bit_at-and, bit_at-not}
use Rattle.network.proofs.Bits.{bit_at-low}
use Rattle.network.proofs.Bits.{bit_at-shr, bit_at-shl, bit_at-shl-low, bit_at-high, bit_at-mod}
use Rattle.network.specs.Fields.{bit_of, field, Written}
use Rattle.network.proofs.Fields.{bit-field}

module _ (x v w s : ℕ) (hw : w + s ≤ 24) (hx : x < 2 ^ 24) (hv : v < 2 ^ w) where
  abbrev splice : ℕ
  splice = bit_or (bit_and x ((2 ^ 32 - 1) - (((1 * 2 ^ w) % 2 ^ 32 - 1) * 2 ^ s) % 2 ^ 32)) ((v * 2 ^ s) % 2 ^ 32)

  one : (1 * 2 ^ w) % 2 ^ 32 ≡ 2 ^ w
  one = one_shl w 32 (omega arith)

  mask : (((1 * 2 ^ w) % 2 ^ 32 - 1) * 2 ^ s) % 2 ^ 32 ≡ (2 ^ w - 1) * 2 ^ s
  mask = ap (λ (n : ℕ). ((n - 1) * 2 ^ s) % 2 ^ 32) one ∙ shl_whole (2 ^ w - 1) w s 32 (ones_lt w) (omega arith)

  up : (v * 2 ^ s) % 2 ^ 32 ≡ v * 2 ^ s
  up = shl_whole v w s 32 hv (omega arith)

  parts : splice ≡ bit_or (bit_and x ((2 ^ 32 - 1) - (2 ^ w - 1) * 2 ^ s)) (v * 2 ^ s)
  parts = ap₂ (λ (m n : ℕ). bit_or (bit_and x ((2 ^ 32 - 1) - m)) n) mask up

  pub splice-small : splice < 2 ^ 24
  splice-small =
      let m : 2 ^ (w + s) ≤ 2 ^ 24 = pow_mono hw in
      or_lt 24 _ _ (lt_of_le_of_lt (and_le_l x _) hx) (subst (λ (n : ℕ). n < 2 ^ 24) (sym up) (lt_of_lt_of_le (shl_below v w s hv) m))

  pub splice-bits : (i : ℕ) → i < 24 → bit_at splice i ≡ cond (leb s i && ltb i (s + w)) (bit_at v (i - s)) (bit_at x i)
  splice-bits i hi =
      let l32 : w + s ≤ 32 = omega arith in
      let m32 : 2 ^ (w + s) ≤ 2 ^ 32 = pow_mono l32 in
      let small : (2 ^ w - 1) * 2 ^ s < 2 ^ 32 = lt_of_lt_of_le (shl_below (2 ^ w - 1) w s (ones_lt w)) m32 in
      ap (λ (n : ℕ). bit_at n i) parts ∙ bit_at-or _ _ i
      ∙ ap (λ b. b || bit_at (v * 2 ^ s) i) (bit_at-and x _ i ∙ ap (λ b. bit_at x i && b) (bit_at-not 32 _ i small (omega arith)))
      ∙ ⊎_elim
      (λ lt. let a : bit_at ((2 ^ w - 1) * 2 ^ s) i ≡ false = bit_at-shl-low _ s i lt in
      let b : bit_at (v * 2 ^ s) i ≡ false = bit_at-shl-low v s i lt in
      let t : leb s i ≡ false = lt-leb s i lt in
      grind arith)
      (λ ge. let e : s + (i - s) ≡ i = omega arith in
      let a : bit_at ((2 ^ w - 1) * 2 ^ s) i ≡ ltb (i - s) w = ap (bit_at ((2 ^ w - 1) * 2 ^ s)) (sym e) ∙ bit_at-shl _ s (i - s) ∙ bit_at-low w (i - s) in
      let b : bit_at (v * 2 ^ s) i ≡ bit_at v (i - s) = ap (bit_at (v * 2 ^ s)) (sym e) ∙ bit_at-shl v s (i - s) in
      let t : leb s i ≡ true = le-leb s i ge in
      let u : ltb (i - s) w ≡ ltb i (s + w) = grind (arith, nat_tests) in
      let z : ltb i (s + w) ≡ false → bit_at v (i - s) ≡ false = λ f. bit_at-high w v (i - s) hv (omega (arith, ltb-false i (s + w) f)) in
      grind arith)
      (cases_lt i s)

digit : (n k m : ℕ) → m < 8 → bit_at (n / 2 ^ k % 2 ^ 8) m ≡ bit_at n (k + m)
digit n k m h = let t : ltb m 8 ≡ true = lt-ltb m 8 h in
    bit_at-mod (n / 2 ^ k) 8 m ∙ rw t (and-true (bit_at (n / 2 ^ k) m) ∙ bit_at-shr n k m)
  where
    and-true : (b : Bool) → (b && true) ≡ b
    and-true true = refl
    and-true false = refl

-- three bytes of n stored from the place j on
abbrev pub three : List ℕ → ℕ → ℕ → List ℕ
three bs j n = set (set (set bs j (n / 65536 % 256)) (j + 1) (n / 256 % 256)) (j + 2) (n % 256)

module _ (bs : List ℕ) (j n : ℕ) where
  length_three : length (three bs j n) ≡ length bs
  length_three = simp length-set

  three-outside : (i : ℕ) → (i < 8 * j) ⊎ (8 * j + 24 ≤ i) → bit_of (three bs j n) i ≡ bit_of bs i
  unfolding bit_of
  three-outside i h =
      let n0 : i / 8 ≢ j = λ e. ⊎_elim (λ a. omega arith) (λ a. omega arith) h in
      let n1 : i / 8 ≢ j + 1 = λ e. ⊎_elim (λ a. omega arith) (λ a. omega arith) h in
      let n2 : i / 8 ≢ j + 2 = λ e. ⊎_elim (λ a. omega arith) (λ a. omega arith) h in
      ap (λ (b : ℕ). bit_at b (7 - i % 8)) (get_or-set_other _ _ _ _ 0 n2 ∙ get_or-set_other _ _ _ _ 0 n1 ∙ get_or-set_other _ _ _ _ 0 n0)

  three-inside : (i : ℕ) → i < 8 * length bs → 8 * j ≤ i → i < 8 * j + 24 → bit_of (three bs j n) i ≡ bit_at n (24 - 1 - (i - 8 * j))
  unfolding bit_of
  three-inside i l ge lt =
      ⊎_elim
      (λ (e : i / 8 ≡ j). let o2 : j ≢ j + 2 = λ x. omega arith in let o1 : j ≢ j + 1 = λ x. omega arith in
      let here : j < length bs = omega arith in
      ap (λ (x : ℕ). bit_at (get_or (three bs j n) x 0) (7 - i % 8)) e
      ∙ ap (λ (b : ℕ). bit_at b (7 - i % 8)) (get_or-set_other _ _ _ _ 0 o2 ∙ get_or-set_other _ _ _ _ 0 o1 ∙ get_or-set_same bs j _ 0 here)
      ∙ digit n 16 (7 - i % 8) (omega arith) ∙ ap (bit_at n) (omega arith))
      (λ (n0 : i / 8 ≡ j → ⊥). ⊎_elim
      (λ (e : i / 8 ≡ j + 1). let o2 : j + 1 ≢ j + 2 = λ x. omega arith in
      let here : j + 1 < length (set bs j (n / 65536 % 256)) = simp length-set (omega arith) in
      ap (λ (x : ℕ). bit_at (get_or (three bs j n) x 0) (7 - i % 8)) e
      ∙ ap (λ (b : ℕ). bit_at b (7 - i % 8)) (get_or-set_other _ _ _ _ 0 o2 ∙ get_or-set_same _ (j + 1) _ 0 here)
      ∙ digit n 8 (7 - i % 8) (omega arith) ∙ ap (bit_at n) (omega arith))
      (λ (n1 : i / 8 ≡ j + 1 → ⊥). let e : i / 8 ≡ j + 2 = omega arith in
      let here : j + 2 < length (set (set bs j (n / 65536 % 256)) (j + 1) (n / 256 % 256)) = simp length-set (omega arith) in
      ap (λ (x : ℕ). bit_at (get_or (three bs j n) x 0) (7 - i % 8)) e
      ∙ ap (λ (b : ℕ). bit_at b (7 - i % 8)) (get_or-set_same _ (j + 2) _ 0 here)
      ∙ ap (λ (x : ℕ). bit_at (x % 2 ^ 8) (7 - i % 8)) (omega arith)
      ∙ digit n 0 (7 - i % 8) (omega arith) ∙ ap (bit_at n) (omega arith))
      (cases_eq (i / 8) (j + 1)))
      (cases_eq (i / 8) j)

  three-past : (i : ℕ) → 8 * length bs ≤ i → bit_of (three bs j n) i ≡ bit_of bs i
  unfolding bit_of
  three-past i l = ap (λ (b : ℕ). bit_at b (7 - i % 8))
      (get_or_past (three bs j n) (i / 8) 0 (omega (arith, length_three)) ∙ sym (get_or_past bs (i / 8) 0 (omega arith)))

pub written-wide : (bs : List ℕ) (p w v n : ℕ) → w ≤ 17 → p + w ≤ 8 * length bs
    → ((i : ℕ) → i < 24 → bit_at n i ≡ cond (leb (24 - p % 8 - w) i && ltb i (24 - p % 8 - w + w)) (bit_at v (i - (24 - p % 8 - w))) (bit_at (field bs (8 * (p / 8)) 24) i))
    → Written bs (three bs (p / 8) n) p w v w
written-wide bs p w v n hw hl bits =
    record {
      inside = λ k h.
          let e : 24 - 1 - (p + k - 8 * (p / 8)) - (24 - p % 8 - w) ≡ w - 1 - k = omega arith in
          let t : (leb (24 - p % 8 - w) (24 - 1 - (p + k - 8 * (p / 8))) && ltb (24 - 1 - (p + k - 8 * (p / 8))) (24 - p % 8 - w + w)) ≡ true = grind (arith, nat_tests) in
          three-inside bs (p / 8) n (p + k) (omega arith) (omega arith) (omega arith) ∙ bits _ (omega arith) ∙ rw (t, e) refl;
      before = λ i h. ⊎_elim (λ a. three-outside bs (p / 8) n i (inl a)) (λ a. kept i (omega arith) a (omega arith) (grind (arith, nat_tests))) (cases_lt i (8 * (p / 8)));
      after = λ i h. ⊎_elim
          (λ a. ⊎_elim (λ l. kept i l (omega arith) a (grind (arith, nat_tests))) (λ l. three-past bs (p / 8) n i l) (cases_lt i (8 * length bs)))
          (λ a. three-outside bs (p / 8) n i (inr a)) (cases_lt i (8 * (p / 8) + 24));
    }
  where
    kept : (i : ℕ) → i < 8 * length bs → 8 * (p / 8) ≤ i → i < 8 * (p / 8) + 24
        → (leb (24 - p % 8 - w) (24 - 1 - (i - 8 * (p / 8))) && ltb (24 - 1 - (i - 8 * (p / 8))) (24 - p % 8 - w + w)) ≡ false
        → bit_of (three bs (p / 8) n) i ≡ bit_of bs i
    kept i l ge lt t =
        let e : 8 * (p / 8) + (i - 8 * (p / 8)) ≡ i = omega arith in
        three-inside bs (p / 8) n i l ge lt ∙ bits _ (omega arith) ∙ rw t (bit-field bs (8 * (p / 8)) 24 (i - 8 * (p / 8)) (omega arith) ∙ ap (bit_of bs) e)
