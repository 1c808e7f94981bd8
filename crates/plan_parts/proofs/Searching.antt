-- What the marks of a search say of the stations: those marked are reached; of those whose neighbours were looked at,
-- each neighbour that passes is marked, and none is b.
use Rattle.std.proofs.Common.{◌≡◌, ℕ, zero, suc, ◌+◌, ◌<◌, ◌≤◌, Bool, true, false, cond, ◌&&◌, eqb, ltb, ◌≢◌, List, length, get_or, set, sym, ap, ◌∙◌, inr, ⊎_elim, arith, get_or-set_other, get_or-set_same}
use Rattle.std.proofs.lemmas.Bool.{and_parts, both_ways, cases_eq, eq-eqb}
use Rattle.std.proofs.lemmas.Bool.Decides.{nat_tests}
use Rattle.network.specs.Bits.{count_to}
use Rattle.network.proofs.Bits.{count_to-same}
use Rattle.elimination.specs.Graphs.{Graph}
use Rattle.plan_parts.specs.Boards.{found}
use Rattle.plan_parts.proofs.Reaching.{PathTo, Reached, reached-more, never-reached}

-- the station k is marked
abbrev pub Seen : List ℕ → ℕ → Type 0
Seen board k = get_or board k 0 ≢ 0

-- the search from a for b, over the stations below n, has come to these marks
pub record Search (G : Graph) (p : ℕ → Bool) (n a b : ℕ) (board : List ℕ) : Type 0 where
  pub begun : Seen board a
  pub sound : (k : ℕ) → k < n → Seen board k → Reached G p a k
  pub looked : (k t : ℕ) → k < n → Seen board k → get_or board k 0 ≢ 1 → G k t ≡ true → (t ≢ b) × (p t ≡ true → Seen board t)

-- how many of the stations below n are left to look at, or were not found
abbrev pub left : ℕ → List ℕ → ℕ
left n board = count_to (λ k. ltb (get_or board k 0) 2) n

one_fewer : (p q : ℕ → Bool) (n s : ℕ) → ((k : ℕ) → k ≢ s → p k ≡ q k) → s < n → p s ≡ false → q s ≡ true → count_to p n < count_to q n
unfolding count_to
one_fewer p q zero s same h e g = absurd (let no : ⊥ = omega arith in no)
one_fewer p q (suc n) s same h e g = ⊎_elim last (λ (ne : s ≡ n → ⊥). before ne (one_fewer p q n s same (omega arith) e g)) (cases_eq s n)
  where
    last : s ≡ n → count_to p n + cond (p n) 1 0 < count_to q n + cond (q n) 1 0
    last i =
        let x : p n ≡ false = ap p (sym i) ∙ e in
        let y : q n ≡ true = ap q (sym i) ∙ g in
        let z = count_to-same p q n (λ k l. same k (omega arith)) in
        simp (x, y) (omega arith)

    before : (s ≡ n → ⊥) → count_to p n < count_to q n → count_to p n + cond (p n) 1 0 < count_to q n + cond (q n) 1 0
    before ne ih = let z = same n (λ i. ne (sym i)) in simp z (omega arith)

-- ---- the search

module _ (G : Graph) (p : ℕ → Bool) (n a b : ℕ) where
  module _ (board : List ℕ) (q : Search G p n a b board) where
    -- a station that was found has a path to each of its neighbours
    pub search-found : (s : ℕ) → s < n → found board s ≡ true → G s b ≡ true → PathTo G p a b
    search-found s h f g = reached-more G p a s b (q.sound s h (λ e. grind (arith, nat_tests))) g

    -- no station is left to look at
    pub search-over : a < n → ((k t : ℕ) → G k t ≡ true → (k < n) × (t < n)) → ((k : ℕ) → k < n → found board k ≡ false) → PathTo G p a b → ⊥
    search-over ha below none =
        never-reached G p (λ k. (k < n) × Seen board k) b
        (λ m k h g. let t = q.looked m k h.0 h.1 (λ e. both_ways (found board m) (none m h.0) (eq-eqb (get_or board m 0) 1 e)) g in (t.0, λ e. ((below m k g).1, t.1 e)))
        a (ha, q.begun)

    -- the neighbours of s are looked at, none of which is b
    module _ (s : ℕ) (hs : s < n) (room : n ≤ length board) (here : found board s ≡ true) (new : List ℕ)
        (marks : (k : ℕ) → get_or new k 0 ≡ cond (G s k && (p k && eqb (get_or (set board s 2) k 0) 0)) 1 (get_or (set board s 2) k 0)) where
      own : get_or new s 0 ≡ 2
      own = let m = marks s in let e = get_or-set_same board s 2 0 (omega arith) in grind (arith, nat_tests)

      other : (k : ℕ) → k ≢ s → get_or new k 0 ≡ cond (G s k && (p k && eqb (get_or board k 0) 0)) 1 (get_or board k 0)
      other k ne = let m = marks k in let e = get_or-set_other board s k 2 0 ne in rw e at m

      stays : (k : ℕ) → Seen board k → Seen new k
      stays k seen z = ⊎_elim (λ (e : k ≡ s). let i : get_or new k 0 ≡ 2 = ap (λ (j : ℕ). get_or new j 0) e ∙ own in omega arith) (λ (ne : k ≡ s → ⊥). let o = other k ne in grind (arith, nat_tests)) (cases_eq k s)

      pub search-less : left n new < left n board
      search-less =
          one_fewer (λ k. ltb (get_or new k 0) 2) (λ k. ltb (get_or board k 0) 2) n s
          (λ k ne. let o = other k ne in grind (arith, nat_tests)) hs (let o = own in grind (arith, nat_tests)) (grind (arith, nat_tests))

      pub search-more : G s b ≡ false → Search G p n a b new
      search-more far = record { begun = stays a q.begun; sound = sound; looked = looked }
        where
          known : get_or board s 0 ≢ 0
          known e = grind (arith, nat_tests)

          first : (k : ℕ) → Seen new k → get_or board k 0 ≡ 0 → (G s k ≡ true) × (p k ≡ true)
          first k seen z =
              let ne : k ≢ s = λ e. known (ap (λ (j : ℕ). get_or board j 0) (sym e) ∙ z) in
              let o = other k ne in
              let e : (G s k && p k) ≡ true = grind (arith, nat_tests) in
              and_parts (G s k) (p k) e

          sound : (k : ℕ) → k < n → Seen new k → Reached G p a k
          sound k h seen =
              ⊎_elim (λ (z : get_or board k 0 ≡ 0). let f = first k seen z in inr (f.1, reached-more G p a s k (q.sound s hs known) f.0))
              (λ (z : get_or board k 0 ≡ 0 → ⊥). q.sound k h z)
              (cases_eq (get_or board k 0) 0)

          near : (t : ℕ) → G s t ≡ true → (t ≢ b) × (p t ≡ true → Seen new t)
          near t g = ((λ e. both_ways (G s b) far (ap (G s) (sym e) ∙ g)), λ pt z. ⊎_elim (λ (e : t ≡ s). let i : get_or new t 0 ≡ 2 = ap (λ (j : ℕ). get_or new j 0) e ∙ own in omega arith) (λ (ne : t ≡ s → ⊥). let o = other t ne in grind (arith, nat_tests)) (cases_eq t s))

          looked : (k t : ℕ) → k < n → Seen new k → get_or new k 0 ≢ 1 → G k t ≡ true → (t ≢ b) × (p t ≡ true → Seen new t)
          looked k t h seen ne g =
              ⊎_elim (λ (e : k ≡ s). near t (ap (λ (j : ℕ). G j t) (sym e) ∙ g))
              (λ (d : k ≡ s → ⊥). let o = other k d in let z : get_or board k 0 ≢ 0 = λ z. grind (arith, nat_tests) in let i : get_or board k 0 ≢ 1 = λ i. grind (arith, nat_tests) in
              let r = q.looked k t h z i g in (r.0, λ pt. stays t (r.1 pt)))
              (cases_eq k s)
