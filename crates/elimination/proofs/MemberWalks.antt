-- Walks over the members of a row: what comes at each turn, and that all have come at the end.
use Rattle.std.proofs.Common.{◌≡◌, ℕ, zero, suc, ◌+◌, ◌-◌, ◌<◌, ◌≤◌, Bool, true, false, not, ◌||◌, List, [], ◌∷◌, ◌++◌, Some, None, filter, sym, refl, ap, ◌∙◌, inl, inr, ⊎_elim, ◌⊎◌, append-nil, arith}
use Rattle.std.specs.Iterator.{Yields, YieldsFirst}
use Rattle.std.specs.List.{list_all, range_with_len}
use Rattle.std.proofs.lemmas.Bool.{both_ways, cases_Bool, cases_eq, cond-true, cond-false, not-true, not_from_false, or_cases, or_left, or_right}
use Rattle.std.proofs.lemmas.Bool.Decides.{same_from_decides}
use Rattle.network.specs.Laws.{FirstIs}
use Rattle.elimination.specs.declared.pair_set.members.RowMembers.{RowMembers}
use Rattle.elimination.specs.Orders.{In, member}
use Rattle.elimination.specs.Graphs.{spare}
use Rattle.elimination.specs.View.{coming}
use Rattle.elimination.specs.Words.{has_common_within, members_from, members_of, rows}
use Rattle.elimination.proofs.Members.{in-member, member-in, in_kept, kept_in}
use Rattle.elimination.proofs.Relations.{Meets, every_in, in-every, in_right, spare-from, spare-to}
use Rattle.elimination.proofs.Rows.{rows-below}
use Rattle.elimination.proofs.RowTests.{common-meets}

-- ---- the list of members

module _ (p : ℕ → Bool) where
  first-of-range : (from t n : ℕ) → from ≤ t → t < from + n → p t ≡ true → ((x : ℕ) → from ≤ x → x < t → p x ≡ false)
      → filter p (range_with_len from n) ≡ t ∷ filter p (range_with_len (t + 1) (from + n - (t + 1)))
  first-of-range from t zero l h e gap = absurd (let no : ⊥ = omega arith in no)
  first-of-range from t (suc n) l h e gap = here (cases_eq from t) (first-of-range (from + 1) t n)
    where
      here : (from ≡ t) ⊎ (from ≡ t → ⊥)
          → (from + 1 ≤ t → t < from + 1 + n → p t ≡ true → ((x : ℕ) → from + 1 ≤ x → x < t → p x ≡ false) → filter p (range_with_len (from + 1) n) ≡ t ∷ filter p (range_with_len (t + 1) (from + 1 + n - (t + 1))))
          → filter p (range_with_len from (suc n)) ≡ t ∷ filter p (range_with_len (t + 1) (from + suc n - (t + 1)))
      here (inl q) ih =
          let m : from + suc n - (t + 1) ≡ n = omega arith in
          cond-true (p from) (from ∷ filter p (range_with_len (from + 1) n)) (filter p (range_with_len (from + 1) n)) (ap p q ∙ e)
          ∙ ap (λ (x : ℕ). x ∷ filter p (range_with_len (x + 1) n)) q ∙ ap (λ (i : ℕ). t ∷ filter p (range_with_len (t + 1) i)) (sym m)
      here (inr ne) ih =
          let m : from + 1 + n - (t + 1) ≡ from + suc n - (t + 1) = omega arith in
          cond-false (p from) (from ∷ filter p (range_with_len (from + 1) n)) (filter p (range_with_len (from + 1) n)) (gap from (omega arith) (omega arith))
          ∙ ih (omega arith) (omega arith) e (λ x g k. gap x (omega arith) k) ∙ ap (λ (i : ℕ). t ∷ filter p (range_with_len (t + 1) i)) m

  none-of-range : (from n : ℕ) → ((x : ℕ) → from ≤ x → x < from + n → p x ≡ false) → filter p (range_with_len from n) ≡ []
  none-of-range from zero gap = refl
  none-of-range from (suc n) gap =
      cond-false (p from) (from ∷ filter p (range_with_len (from + 1) n)) (filter p (range_with_len (from + 1) n)) (gap from (omega arith) (omega arith))
      ∙ none-of-range (from + 1) n (λ x g k. gap x (omega arith) (omega arith))

  in-range : (from n x : ℕ) → from ≤ x → x < from + n → In x (range_with_len from n)
  in-range from zero x g k = absurd (let no : ⊥ = omega arith in no)
  in-range from (suc n) x g k = ⊎_elim (λ (q : x ≡ from). inl q) (λ (ne : x ≡ from → ⊥). inr (in-range (from + 1) n x (omega arith) (omega arith))) (cases_eq x from)

  pub members-first : (from t : ℕ) → FirstIs p from 512 (Some t) → members_from p from ≡ t ∷ members_from p (t + 1)
  unfolding members_from
  members-first from t f =
      let e : from + (512 - from) - (t + 1) ≡ 512 - (t + 1) = omega (arith, f.0, f.1) in
      first-of-range from t (512 - from) f.0 (omega (arith, f.0, f.1)) f.2 f.3 ∙ ap (λ (n : ℕ). t ∷ filter p (range_with_len (t + 1) n)) e

  pub members-none : (from : ℕ) → FirstIs p from 512 None → members_from p from ≡ []
  unfolding members_from
  members-none from f = none-of-range from (512 - from) (λ x g k. f x g (omega arith))

  -- the members are what passes the test
  pub members-all : ((x : ℕ) → p x ≡ true → x < 512) → (x : ℕ) → member x (members_from p 0) ≡ p x
  unfolding members_from
  members-all below x =
      ⊎_elim
      (λ (t : p x ≡ true). member-in x (members_from p 0) (in_kept p x (range_with_len 0 512) (in-range 0 512 x (omega arith) (below x t)) t) ∙ sym t)
      (λ (f : p x ≡ false). ⊎_elim
      (λ (m : member x (members_from p 0) ≡ true). absurd (both_ways (p x) f (kept_in p x (range_with_len 0 512) (in-member x (members_from p 0) m)).1))
      (λ (m : member x (members_from p 0) ≡ false). m ∙ sym f)
      (cases_Bool (member x (members_from p 0))))
      (cases_Bool (p x))

-- ---- a walk

-- what has come and what is still to come are all
pub came : (m : RowMembers) (ys : List ℕ) (t : RowMembers) → Yields (YieldsFirst coming) m ys t → coming m ≡ ys ++ coming t
came m [] t e = ap coming e
came m (y ∷ ys) t e = e.1 ∙ ap (λ (zs : List ℕ). y ∷ zs) (came e.0 ys t e.2)

-- a walk over the members of the row v, which has yielded ys and is at t
module _ (ws : List ℕ) (v : ℕ) (items m : RowMembers) (same : m ≡ items) (from : coming items ≡ members_of (rows ws) v) (ys : List ℕ) (t u : RowMembers) (y : Yields (YieldsFirst coming) m ys t) where
  -- what comes is a member
  pub turn-member : (x : ℕ) → YieldsFirst coming t (Some x) u → rows ws v x ≡ true
  turn-member x e =
      sym (members-all (rows ws v) (λ x h. (rows-below ws v x h).1) x)
      ∙ ap (member x) (sym from ∙ sym (ap coming same) ∙ came m ys t y ∙ ap (λ (zs : List ℕ). ys ++ zs) e)
      ∙ member-in x (ys ++ x ∷ coming u) (in_right x ys (x ∷ coming u) (inl refl))

  pub turn-below : (x : ℕ) → YieldsFirst coming t (Some x) u → x < 512
  turn-below x e = (rows-below ws v x (turn-member x e)).1

  -- at the end exactly the members have come
  pub end-members : YieldsFirst coming t None u → (x : ℕ) → member x ys ≡ rows ws v x
  end-members e x =
      ap (member x) (sym (append-nil ys) ∙ ap (λ (zs : List ℕ). ys ++ zs) (sym e.0) ∙ sym (came m ys t y) ∙ ap coming same ∙ from)
      ∙ members-all (rows ws v) (λ x h. (rows-below ws v x h).1) x

-- ---- a test of each member

-- each common neighbour of u and v has every other one in its row
pub spare-members : (ws : List ℕ) (u v : ℕ) → list_all (λ a. not (rows ws v a) || has_common_within 512 (rows ws) u v a) (members_of (rows ws) u) ≡ spare 512 (rows ws) u v
spare-members ws u v =
    same_from_decides _ (spare 512 (rows ws) u v) (
      (λ t. λ x ux vx. holds x (every_in test (members_of (rows ws) u) t x (in-member x (members_of (rows ws) u) (members-all (rows ws u) (λ x h. (rows-below ws u x h).1) x ∙ ux))) vx),
      (λ f. in-every test (members_of (rows ws) u) (λ x i. passes x (sym (members-all (rows ws u) (λ x h. (rows-below ws u x h).1) x) ∙ member-in x (members_of (rows ws) u) i) (f x))),
    )
    ((λ t. spare-from 512 (rows ws) u v (rows-below ws) t), (λ f. spare-to 512 (rows ws) u v f))
  where
    test : ℕ → Bool
    test a = not (rows ws v a) || has_common_within 512 (rows ws) u v a

    holds : (x : ℕ) → test x ≡ true → rows ws v x ≡ true → Meets (rows ws) u v x
    holds x t vx =
        ⊎_elim
        (λ (n : not (rows ws v x) ≡ true). absurd (both_ways (rows ws v x) (not-true (rows ws v x) n) vx))
        (λ (c : has_common_within 512 (rows ws) u v x ≡ true). (common-meets ws u v x (has_common_within 512 (rows ws) u v x) refl).0 c)
        (or_cases (not (rows ws v x)) (has_common_within 512 (rows ws) u v x) t)

    passes : (x : ℕ) → rows ws u x ≡ true → (rows ws u x ≡ true → rows ws v x ≡ true → Meets (rows ws) u v x) → test x ≡ true
    passes x ux f =
        ⊎_elim
        (λ (vx : rows ws v x ≡ true). or_right (not (rows ws v x)) (has_common_within 512 (rows ws) u v x) ((common-meets ws u v x (has_common_within 512 (rows ws) u v x) refl).1 (f ux vx)))
        (λ (vx : rows ws v x ≡ false). or_left (not (rows ws v x)) (has_common_within 512 (rows ws) u v x) (not_from_false (rows ws v x) vx))
        (cases_Bool (rows ws v x))
