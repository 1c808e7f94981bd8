-- What holds of every history of a run, and how each call carries one on.
use Rattle.std.proofs.Common.{◌≡◌, ℕ, zero, suc, ◌<◌, ◌≤◌, true, false, eqb, ◌⊎◌, List, is_some, Some, None, Option, sym, refl, ap, ◌∙◌, inl, inr, ⊎_elim, arith}
use Rattle.std.proofs.lemmas.Bool.{cases_Bool, cases_eq, and_parts, eqb-true, or_cases, both_ways}
use Rattle.std.proofs.lemmas.Bool.Decides.{nat_tests}
use Rattle.elimination.specs.Graphs.{Graph}
use Rattle.plan_parts.specs.Layout.{in_column, place_for, cell, Closed}
use Rattle.plan_parts.specs.ReserveLaws.{Grounded}
use Rattle.plan_parts.proofs.Numbering.{cell-some, column-le}
use Rattle.run_parts.specs.Kinds.{Kind}
use Rattle.run_parts.specs.Square.{Square, met, pivot, pivotal, single, beyond}
use Rattle.run_parts.specs.Histories.{Stage, RunHistory, row_of, column_of}
use Rattle.run_parts.specs.Laws.{AllPut, RunsFillExactlyThePlaces}
use Rattle.run_parts.specs.Histories.Stage.{loading, running, ended}
use Rattle.run_parts.specs.Histories.RunHistory.{started, put, put_first_unknown, put_second_unknown, put_short, put_without_place, begun, stepped, step_finished, step_short, step_unusable, finished, asked, asked_first_unknown, asked_second_unknown, asked_short}
use Rattle.run_parts.proofs.Parts.{part-on, part_off, closed-cell}

some_is : {A : Type 0} (o : Option A) → is_some o ≡ true → (x : A) × (o ≡ Some x)
some_is None h = absurd (both_ways false refl h)
some_is (Some x) h = (x, refl)

module _ {E : Type 0} (K : Kind E) where
  met-keeps : (o l p r : Option E) → is_some o ≡ true → is_some (met K o l p r) ≡ true
  met-keeps o None p r h = h
  met-keeps o (Some l) None r h = h
  met-keeps o (Some l) (Some p) None h = h
  met-keeps o (Some l) (Some p) (Some r) h = refl

  met-fills : (o l p r : Option E) → is_some l ≡ true → is_some p ≡ true → is_some r ≡ true → is_some (met K o l p r) ≡ true
  met-fills o None p r a b c = absurd (both_ways false refl a)
  met-fills o (Some l) None r a b c = absurd (both_ways false refl b)
  met-fills o (Some l) (Some p) None a b c = absurd (both_ways false refl c)
  met-fills o (Some l) (Some p) (Some r) a b c = refl

  met-cases : (o l p r : Option E) → is_some (met K o l p r) ≡ true → (is_some o ≡ true) ⊎ ((is_some l ≡ true) × (is_some r ≡ true))
  met-cases o None p r h = inl h
  met-cases o (Some l) None r h = inl h
  met-cases o (Some l) (Some p) None h = inl h
  met-cases o (Some l) (Some p) (Some r) h = inr (refl, refl)

  pivotal-some : (o : Option E) → pivotal K o ≡ true → is_some o ≡ true
  pivotal-some None h = h
  pivotal-some (Some x) h = refl

  pivot-keeps : (k : ℕ) (S : Square E) (a b : ℕ) → is_some (S a b) ≡ true → is_some (pivot K k S a b) ≡ true
  pivot-keeps k S a b h = elim (cases_Bool (beyond k a b)) [
    | inl t ↦ ap is_some (part-on K k (beyond k) S a b t) ∙ met-keeps (S a b) (S a k) (S k k) (S b k) h
    | inr f ↦ ap is_some (part_off K k (beyond k) S a b f) ∙ h
  ]

  pivot-fills : (k : ℕ) (S : Square E) (a b : ℕ) → k < b → b ≤ a → is_some (S a k) ≡ true → is_some (S k k) ≡ true → is_some (S b k) ≡ true → is_some (pivot K k S a b) ≡ true
  pivot-fills k S a b lt le hl hp hr = ap is_some (part-on K k (beyond k) S a b (grind (arith, nat_tests))) ∙ met-fills (S a b) (S a k) (S k k) (S b k) hl hp hr

  pivot-cases : (k : ℕ) (S : Square E) (a b : ℕ) → is_some (pivot K k S a b) ≡ true → (is_some (S a b) ≡ true) ⊎ ((k < b) × (b ≤ a) × (is_some (S a k) ≡ true) × (is_some (S b k) ≡ true))
  pivot-cases k S a b h = elim (cases_Bool (beyond k a b)) [
    | inl t ↦
        (let lt : k < b = grind (arith, nat_tests) in
        let le : b ≤ a = grind (arith, nat_tests) in
        ⊎_elim (λ (x : is_some (S a b) ≡ true). inl x)
        (λ (x : (is_some (S a k) ≡ true) × (is_some (S b k) ≡ true)). inr (lt, le, x.0, x.1))
        (met-cases (S a b) (S a k) (S k k) (S b k) (sym (ap is_some (part-on K k (beyond k) S a b t)) ∙ h)))
    | inr f ↦ inl (sym (ap is_some (part_off K k (beyond k) S a b f)) ∙ h)
  ]

  -- the columns up to k are not altered by pivot k
  pivot-column : (k : ℕ) (S : Square E) (a m : ℕ) → m ≤ k → pivot K k S a m ≡ S a m
  pivot-column k S a m le = part_off K k (beyond k) S a m (grind (arith, nat_tests))

  record Sound (F : Graph) (n k : ℕ) (sq : Square E) (P : Graph) : Type 0 where
    pub within : (i j : ℕ) → is_some (sq i j) ≡ true → is_some (cell F n i j) ≡ true
    pub puts : (i j : ℕ) → P i j ≡ true → is_some (sq i j) ≡ true
    pub joins : (i j m : ℕ) → m < k → m < j → j ≤ i → is_some (sq i m) ≡ true → is_some (sq j m) ≡ true → is_some (sq i j) ≡ true

  same-sound : {F : Graph} {n k : ℕ} {sq : Square E} {P : Graph} → Sound F n k sq P → Sound F n k sq P
  same-sound s = record { within = s.within; puts = s.puts; joins = s.joins }

  sound : (F : Graph) (n : ℕ) (xs : List ℕ) (stage : Stage) (k : ℕ) (sq : Square E) (P : Graph) → Closed F n → RunHistory K F n xs stage k sq P → Sound F n k sq P
  unfolding place_for
  sound F n xs stage k sq P closed started = record { within = λ i j h. absurd (both_ways false refl h); puts = λ i j h. absurd (both_ways false refl h); joins = λ i j m lt. absurd (omega arith) }
  sound F n xs stage k sq P closed (put {sq = S} {P = Q} r a b e la lb here) =
      let s = sound F n xs loading 0 S Q closed r in
      let i = row_of xs a b in
      let j = column_of xs a b in
      record {
        within = λ x y h. elim (cases_Bool (single i j x y)) [
          | inl t ↦ (let w = and_parts (eqb x i) (eqb y j) t in rw (eqb-true x i w.0, eqb-true y j w.1) here)
          | inr f ↦ s.within x y (simp f at h)
        ];
        puts = λ x y h. elim (cases_Bool (single i j x y)) [
          | inl t ↦ simp t
          | inr f ↦ simp f (⊎_elim (s.puts x y) (λ (t : single i j x y ≡ true). absurd (both_ways (single i j x y) f t)) (or_cases (Q x y) (single i j x y) h))
        ];
        joins = λ x y m lt. absurd (omega arith);
      }
  sound F n xs stage k sq P closed (put_first_unknown r a h) = same-sound (sound F n xs loading 0 sq P closed r)
  sound F n xs stage k sq P closed (put_second_unknown r a b g h) = same-sound (sound F n xs loading 0 sq P closed r)
  sound F n xs stage k sq P closed (put_short r a b e m f g h) = same-sound (sound F n xs loading 0 sq P closed r)
  sound F n xs stage k sq P closed (put_without_place r a b f g h) = same-sound (sound F n xs loading 0 sq P closed r)
  sound F n xs stage k sq P closed (begun r) = same-sound (sound F n xs loading 0 sq P closed r)
  sound F n xs stage k sq P closed (stepped {k = q} {sq = S} {P = Q} r lt usable) =
      let s = sound F n xs running q S Q closed r in
      let middle = pivotal-some (S q q) usable in
      record {
        within = λ i j h. ⊎_elim (s.within i j)
            (λ (x : (q < j) × (j ≤ i) × (is_some (S i q) ≡ true) × (is_some (S j q) ≡ true)).
            let a = some_is (cell F n i q) (s.within i q x.2) in
            let c = some_is (cell F n j q) (s.within j q x.3) in
            ap is_some (closed-cell F n i j q a.0 c.0 closed x.0 x.1 a.1 c.1).1)
            (pivot-cases q S i j h);
        puts = λ i j h. pivot-keeps q S i j (s.puts i j h);
        joins = λ i j m mk mj ji hl hr.
            let hl' : is_some (S i m) ≡ true = sym (ap is_some (pivot-column q S i m (omega arith))) ∙ hl in
            let hr' : is_some (S j m) ≡ true = sym (ap is_some (pivot-column q S j m (omega arith))) ∙ hr in
            elim (cases_eq m q) [
              | inl e ↦ pivot-fills q S i j (omega arith) ji (rw e at hl') middle (rw e at hr')
              | inr d ↦ pivot-keeps q S i j (s.joins i j m (omega (arith, d)) mj ji hl' hr')
            ];
      }
  sound F n xs stage k sq P closed (step_finished r) = same-sound (sound F n xs running n sq P closed r)
  sound F n xs stage k sq P closed (step_short r e m h) = same-sound (sound F n xs running k sq P closed r)
  sound F n xs stage k sq P closed (step_unusable r lt h) = same-sound (sound F n xs running k sq P closed r)
  sound F n xs stage k sq P closed (finished r) = same-sound (sound F n xs running k sq P closed r)
  sound F n xs stage k sq P closed (asked r a b g h) = same-sound (sound F n xs ended k sq P closed r)
  sound F n xs stage k sq P closed (asked_first_unknown r a h) = same-sound (sound F n xs ended k sq P closed r)
  sound F n xs stage k sq P closed (asked_second_unknown r a b g h) = same-sound (sound F n xs ended k sq P closed r)
  sound F n xs stage k sq P closed (asked_short r a b e m f g h) = same-sound (sound F n xs ended k sq P closed r)

  -- every filled pair is held in the end, by the earlier of its two positions
  filled-held : (F : Graph) (n k : ℕ) (sq : Square E) (P C : Graph) → Sound F n k sq P → Grounded F n C → AllPut n C P → k ≡ n → (top i j : ℕ) → j < top → i < n → j < i → F i j ≡ true → is_some (sq i j) ≡ true
  filled-held F n k sq P C s ground all e zero i j lt li ji h = absurd (omega arith)
  filled-held F n k sq P C s ground all e (suc top) i j lt li ji h = ⊎_elim
      (λ (c : C i j ≡ true). s.puts i j (all.couplings i j li ji c))
      (λ (x : (m : ℕ) × (m < j) × (F i m ≡ true) × (F j m ≡ true)).
      s.joins i j x.0 (omega (arith, x.1)) x.1 (omega arith)
      (filled-held F n k sq P C s ground all e top i x.0 (omega (arith, x.1)) li (omega (arith, x.1)) x.2)
      (filled-held F n k sq P C s ground all e top j x.0 (omega (arith, x.1)) (omega arith) x.1 x.3))
      (ground i j li ji h)

  pub whole : RunsFillExactlyThePlaces K
  unfolding in_column
  whole F n xs stage k sq P closed r = (s.within, λ C ground all e i j h. full C ground all e i j (some_is (cell F n i j) h))
    where
      s : Sound F n k sq P
      s = sound F n xs stage k sq P closed r

      pair : (i j : ℕ) → j < i → in_column F j i ≡ true → F i j ≡ true
      pair i j lt h = grind (arith, nat_tests)

      full : (C : Graph) → Grounded F n C → AllPut n C P → k ≡ n → (i j : ℕ) → ((p : ℕ) × (cell F n i j ≡ Some p)) → is_some (sq i j) ≡ true
      full C ground all e i j x =
          let t = cell-some F n i j x.0 x.1 in
          let le = column-le F j i t.here in
          elim (cases_eq i j) [
            | inl q ↦ (let d : is_some (sq i i) ≡ true = s.puts i i (all.diagonals i t.within) in rw (sym q) d)
            | inr d ↦ (let lt : j < i = omega (arith, d) in filled-held F n k sq P C s ground all e (suc j) i j (omega arith) t.within lt (pair i j lt t.here))
          ]

  pub only-places : (F : Graph) (n : ℕ) (xs : List ℕ) (stage : Stage) (k : ℕ) (sq : Square E) (P : Graph) → Closed F n → RunHistory K F n xs stage k sq P
      → (i j : ℕ) → is_some (sq i j) ≡ true → is_some (cell F n i j) ≡ true
  only-places F n xs stage k sq P closed r = (sound F n xs stage k sq P closed r).within
