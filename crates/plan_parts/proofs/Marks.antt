-- Marks on a board, as a walk over the neighbours of a station makes them.
use Rattle.std.proofs.Common.{◌≡◌, ℕ, ◌<◌, Bool, true, false, cond, ◌&&◌, ◌||◌, eqb, ltb, List, [], ◌∷◌, ◌++◌, length, get_or, set, refl, ap, ◌∙◌, ⊎_elim, arith, get_or-set_other, get_or-set_same}
use Rattle.std.proofs.lemmas.Bool.{cases_eq}
use Rattle.std.proofs.lemmas.Bool.Decides.{nat_tests}
use Rattle.elimination.specs.Graphs.{Graph}
use Rattle.elimination.specs.Orders.{member, position_of}
use Rattle.elimination.proofs.Members.{member_more}
use Rattle.plan_parts.specs.Boards.{mark_after, unseen}

-- the mark of j once some of the neighbours of s were looked at
abbrev pub mark_to : Graph → List ℕ → ℕ → ℕ → List ℕ → List ℕ → ℕ → ℕ
mark_to G xs position s board done j = cond (member j done && unseen G xs position s board j) 1 (get_or board j 0)

-- the board holds the marks of a walk that has come to some neighbours
abbrev pub Marked : Graph → List ℕ → ℕ → ℕ → List ℕ → List ℕ → List ℕ → Type 0
Marked G xs position s old board done = (j : ℕ) → get_or board j 0 ≡ mark_to G xs position s old done j

-- the next neighbour k has its turn
pub mark-more : (G : Graph) (xs : List ℕ) (position s : ℕ) (old board : List ℕ) (done : List ℕ) (k : ℕ) → Marked G xs position s old board done → G s k ≡ true → k < length board
    → Marked G xs position s old (cond (ltb (position_of xs k) position && eqb (get_or board k 0) 0) (set board k 1) board) (done ++ k ∷ [])
mark-more G xs position s old board done k m g room j = rw (member_more j k done) (by-test (ltb (position_of xs k) position && eqb (get_or board k 0) 0) refl)
  where
    own : j ≡ k → (G s j ≡ true) × (position_of xs j ≡ position_of xs k) × (get_or board j 0 ≡ get_or board k 0)
    own q = (ap (G s) q ∙ g, ap (position_of xs) q, ap (λ (x : ℕ). get_or board x 0) q)

    set-own : j ≡ k → get_or (set board k 1) j 0 ≡ 1
    set-own q = ap (λ (x : ℕ). get_or (set board k 1) x 0) q ∙ get_or-set_same board k 1 0 room

    by-test : (b : Bool) → (ltb (position_of xs k) position && eqb (get_or board k 0) 0) ≡ b → get_or (cond b (set board k 1) board) j 0 ≡ cond ((member j done || eqb j k) && unseen G xs position s old j) 1 (get_or old j 0)
    by-test true t =
        let o = m j in
        ⊎_elim (λ (q : j ≡ k). let h = own q in let h0 = h.0 in let h1 = h.1 in let h2 = h.2 in let e = set-own q in grind (arith, nat_tests)) (λ (n : j ≡ k → ⊥). let e = get_or-set_other board k j 1 0 n in grind (arith, nat_tests)) (cases_eq j k)
    by-test false t =
        let o = m j in
        ⊎_elim (λ (q : j ≡ k). let h = own q in let h0 = h.0 in let h1 = h.1 in let h2 = h.2 in grind (arith, nat_tests)) (λ (n : j ≡ k → ⊥). grind (arith, nat_tests)) (cases_eq j k)

-- every neighbour has come
pub marks-all : (G : Graph) (xs : List ℕ) (position s : ℕ) (old board : List ℕ) (done : List ℕ) → Marked G xs position s old board done → ((x : ℕ) → member x done ≡ G s x) → (k : ℕ) → get_or board k 0 ≡ mark_after G xs position s old k
marks-all G xs position s old board done m all k = let o = m k in let a = all k in grind (arith, nat_tests)
