-- A replay with one call more.
use Rattle.std.proofs.Common.{◌≡◌, ℕ, ◌+◌, ◌<◌, Bool, false, List, [], ◌∷◌, ◌++◌, map, length, get_or, take, sym, refl, ap, ◌∙◌, subst, add-one, take-suc}
use lib.ListN.{length-map, get_or-map}
use lib.Seq.{take-length}
use Rattle.network.specs.Net.{Net}
use Rattle.elimination.specs.Orders.{up_to}
use Rattle.plan_parts.specs.PlanCalls.{asked}
use Rattle.plan_parts.specs.PlanLaws.{FillKept}
use Rattle.plan_parts.specs.PlanStates.{Asked, Extends, PlanHistory, PlanState, Replayed, given_after, given_by, given_from, tight_after, tight_by, tight_from}
use Rattle.plan_parts.specs.declared.plan.plan_call.PlanCall.{PlanCall}
use Rattle.plan_parts.proofs.Histories.{fill-kept}

given-more : (n : ℕ) (given : List ℕ) (calls : List Asked) (a : Asked) → given_from n given (calls ++ (a ∷ [])) ≡ given_after n a (given_from n given calls)
given-more n given [] a = refl
given-more n given (call ∷ calls) a = given-more n (given_after n call given) calls a

tight-more : (n : ℕ) (tight : Bool) (calls : List Asked) (a : Asked) → tight_from n tight (calls ++ (a ∷ [])) ≡ tight_after n a (tight_from n tight calls)
tight-more n tight [] a = refl
tight-more n tight (call ∷ calls) a = tight-more n (tight_after n call tight) calls a

pub replay-more : (net : Net) (calls calls' : List Asked) (s s' : PlanState) (a : Asked) → calls' ≡ calls ++ (a ∷ []) → Replayed net calls s → Extends a s s' → Replayed net calls' s'
replay-more net calls calls' s s' a e r x =
    let n : ℕ = net.size in
    let h = x.history calls (given_by n calls) (tight_by n calls) r.0 in
    let Z : Net → Type 0 = λ m. PlanHistory (calls ++ (a ∷ [])) (given_after m.size a (given_by n calls)) (tight_after m.size a (tight_by n calls)) s' in
    let G : List ℕ → Type 0 = λ given. PlanHistory (calls ++ (a ∷ [])) given (tight_after n a (tight_by n calls)) s' in
    let T : Bool → Type 0 = λ tight. PlanHistory (calls ++ (a ∷ [])) (given_by n (calls ++ (a ∷ []))) tight s' in
    let C : List Asked → Type 0 = λ l. PlanHistory l (given_by n l) (tight_by n l) s' in
    (subst C (sym e) (subst T (sym (tight-more n false calls a)) (subst G (sym (given-more n (up_to n) calls a)) (subst Z r.1 h))), x.net ∙ r.1)

pub take-asked : (calls : List PlanCall) (k : ℕ) (d : PlanCall) → k < length calls → take (k + 1) (map asked calls) ≡ take k (map asked calls) ++ (asked (get_or calls k d) ∷ [])
take-asked calls k d h =
    let l : k < length (map asked calls) = rw (length-map calls asked) h in
    rw add-one (take-suc (map asked calls) k (asked d) l ∙ ap (λ (a : Asked). take k (map asked calls) ++ (a ∷ [])) (get_or-map asked calls k d))

pub replay-all : (net : Net) (calls : List PlanCall) (k : ℕ) (s : PlanState) → k ≡ length calls → Replayed net (take k (map asked calls)) s → Replayed net (map asked calls) s
replay-all net calls k s e r =
    let P : List Asked → Type 0 = λ l. Replayed net l s in
    subst P (ap (λ (m : ℕ). take m (map asked calls)) (e ∙ sym (length-map calls asked)) ∙ take-length (map asked calls)) r

-- what is replayed keeps its fill
pub replay-kept : (net : Net) (calls : List Asked) (s : PlanState) → Replayed net calls s → FillKept net (given_by net.size calls) (tight_by net.size calls) s.order
replay-kept net calls s r =
    let P : Net → Type 0 = λ m. FillKept m (given_by net.size calls) (tight_by net.size calls) s.order in
    subst P r.1 (fill-kept calls (given_by net.size calls) (tight_by net.size calls) s r.0)
