-- The theorems of specs/Theorems.antt, proved.
use Rattle.std.proofs.Common.{◌≡◌, ℕ, true, false, not, List, ◌∙◌, ⊎_elim}
use Rattle.std.proofs.lemmas.Bool.{both_ways, cases_Bool, and_parts, and_from, not-true, not_from_false}
use Rattle.network.specs.Net.{Net, Lawful}
use Rattle.elimination.specs.Graphs.{Graph, Simple, Sub, without}
use Rattle.elimination.specs.Orders.{In, Order, up_to}
use Rattle.elimination.specs.Elimination.{filled, fill}
use Rattle.elimination.specs.Theorems.{FilledIsTheLeastClosed, FilledByPaths, EndVertexLaw, WithoutSpareFillMinimal, LessFillLeavesASparePair, SparePairsCanGo, PerfectFillsWithin, AnyStationLast, SeatsWithoutNewFill}
use Rattle.elimination.proofs.Relations.{Closed, Clique, SpareIn, plain, simple, clique-from, clique-to, closed-from, closed-to, in-up_to, up_to-in, spare-from, spare-to}
use Rattle.elimination.proofs.Least.{filled-holds, filled-closed, filled-least, filled-symmetric, filled-irreflexive, within-filled}
use Rattle.elimination.proofs.EndVertex.{End, end-vertex}
use Rattle.elimination.proofs.Excess.{Excess, excess}
use Rattle.elimination.proofs.Removal.{removal}
use Rattle.elimination.proofs.Paths.{filled-joined, joined-filled}
use Rattle.elimination.proofs.Lasts.{EndsIn, ends-in}

-- ---- over graphs that orders close

pub lawful-simple : (net : Net) → Lawful net → Simple net.size net.coupled
lawful-simple net l = record { symmetric = l.symmetric; irreflexive = l.irreflexive; below = λ a b h. (l.within a b h, l.within b a (l.symmetric b a ∙ h)) }

module _ (n : ℕ) (C : Graph) (s : Simple n C) (xs : List ℕ) (o : Order n xs) where
  pub filled-simple : Simple n (filled C xs)
  filled-simple =
      let p = plain n C xs o s in
      simple n (filled C xs) xs o (record { symmetric = filled-symmetric C xs p.symmetric; irreflexive = filled-irreflexive C xs p.irreflexive; within = within-filled C xs p.within })

  pub filled-order-closed : Closed (filled C xs) xs
  filled-order-closed = filled-closed C xs (plain n C xs o s).within o.once

  pub filled-order-least : (H : Graph) → Sub C H → Closed H xs → Sub (filled C xs) H
  filled-order-least H c k = filled-least C H xs (plain n C xs o s).within c k

-- the members of an order, and those of another
same-members : (n : ℕ) (xs ys : List ℕ) → Order n xs → Order n ys → (a : ℕ) → In a xs → In a ys
same-members n xs ys ox oy a i = oy.all a (ox.only a i)

-- a closed graph that has more than some filling within it has a spare pair that the filling lacks
pub spare-beyond : (n : ℕ) (C H : Graph) (xs ys : List ℕ) → Order n xs → Order n ys → Simple n C → Simple n H → Closed H xs → Sub (filled C ys) H
    → (u v : ℕ) → H u v ≡ true → filled C ys u v ≡ false
    → (a b : ℕ) × (H a b ≡ true) × (filled C ys a b ≡ false) × SpareIn H a b
spare-beyond n C H xs ys ox oy sc sh hc sub u v h g =
    let pc = plain n C ys oy sc in
    let l = sh.below u v h in
    let t : Excess (filled C ys) H ys = excess (filled C ys) H (filled-symmetric C ys sc.symmetric) sh.symmetric sh.irreflexive sub xs hc ys (same-members n ys xs oy ox) (filled-closed C ys pc.within oy.once) u v (oy.all u l.0) (oy.all v l.1) h g in
    (t.0, t.1, t.4, t.5, λ a ua va b ne ub vb. t.6 a b (oy.all a (sh.below t.0 a ua).1) (oy.all b (sh.below t.0 b ub).1) ne ua va ub vb)

-- ---- fill and filled pairs

pub fill-parts : (C : Graph) (xs : List ℕ) (a b : ℕ) → fill C xs a b ≡ true → (filled C xs a b ≡ true) × (C a b ≡ false)
fill-parts C xs a b h = let t = and_parts (filled C xs a b) (not (C a b)) h in (t.0, not-true (C a b) t.1)

pub fill-from : (C : Graph) (xs : List ℕ) (a b : ℕ) → filled C xs a b ≡ true → C a b ≡ false → fill C xs a b ≡ true
fill-from C xs a b h k = and_from (filled C xs a b) (not (C a b)) h (not_from_false (C a b) k)

-- what fills within another's fill fills within its filled pairs
pub filled-sub : (C : Graph) (xs ys : List ℕ) → Sub (fill C ys) (fill C xs) → Sub (filled C ys) (filled C xs)
filled-sub C xs ys s a b h = ⊎_elim (λ (c : C a b ≡ true). filled-holds C xs a b c) (λ (c : C a b ≡ false). (fill-parts C xs a b (s a b (fill-from C ys a b h c))).0) (cases_Bool (C a b))

pub fill-sub : (C : Graph) (xs ys : List ℕ) → Sub (filled C ys) (filled C xs) → Sub (fill C ys) (fill C xs)
fill-sub C xs ys s a b h = let t = fill-parts C ys a b h in fill-from C xs a b (s a b t.0) t.1

-- a pair that is in one fill and not in the other
pub lacks : (C : Graph) (ys : List ℕ) (a b : ℕ) → fill C ys a b ≡ false → C a b ≡ false → filled C ys a b ≡ false
lacks C ys a b g c = ⊎_elim (λ (h : filled C ys a b ≡ true). absurd (both_ways (fill C ys a b) g (fill-from C ys a b h c))) (λ (h : filled C ys a b ≡ false). h) (cases_Bool (filled C ys a b))

not-fill : (C : Graph) (ys : List ℕ) (a b : ℕ) → filled C ys a b ≡ false → fill C ys a b ≡ false
not-fill C ys a b g = ⊎_elim (λ (h : fill C ys a b ≡ true). absurd (both_ways (filled C ys a b) g (fill-parts C ys a b h).0)) (λ (h : fill C ys a b ≡ false). h) (cases_Bool (fill C ys a b))

-- ---- the theorems

pub filled-is-the-least-closed : FilledIsTheLeastClosed
filled-is-the-least-closed net xs l o =
    let s = lawful-simple net l in (
      filled-simple net.size net.coupled s xs o,
      filled-holds net.coupled xs,
      closed-to (filled net.coupled xs) xs (filled-order-closed net.size net.coupled s xs o),
      λ H c k. filled-order-least net.size net.coupled s xs o H c (closed-from H xs k),
    )

pub perfect-fills-within : PerfectFillsWithin
perfect-fills-within net xs l o H c k = filled-order-least net.size net.coupled (lawful-simple net l) xs o H c (closed-from H xs k)

pub filled-by-paths : FilledByPaths
filled-by-paths net xs l o a b ne = (
  filled-joined net.coupled xs l.symmetric a b (plain net.size net.coupled xs o (lawful-simple net l)).within,
  joined-filled net.coupled xs l.symmetric a b l.irreflexive o.once ne,
)

pub end-vertices : EndVertexLaw
end-vertices n H xs K s o c k f =
    let cl : Clique H K xs = λ a b ia ib. clique-from H K (up_to n) k a b (in-up_to n a (o.only a ia)) (in-up_to n b (o.only b ib)) in
    let e : End H K xs = end-vertex H s.symmetric s.irreflexive xs (closed-from H xs c) K cl (f.0, o.all f.0 f.1, f.2) in
    (e.0, o.only e.0 e.1, e.2, clique-to H (H e.0) (up_to n) (λ a b ia ib. e.3 a b (o.all a (up_to-in n a ia)) (o.all b (up_to-in n b ib))))

pub less-fill-leaves-a-spare-pair : LessFillLeavesASparePair
less-fill-leaves-a-spare-pair net xs l o ys oy p =
    let n = net.size in
    let C = net.coupled in
    let s = lawful-simple net l in
    let u = p.1.0 in
    let v = p.1.1 in
    let w = fill-parts C xs u v p.1.2 in
    let t = spare-beyond n C (filled C xs) xs ys o oy s (filled-simple n C s xs o) (filled-order-closed n C s xs o) (filled-sub C xs ys p.0) u v w.0 (lacks C ys u v p.1.3 w.1) in (
      t.0,
      t.1,
      fill-from C xs t.0 t.1 t.2 (⊎_elim (λ (c : C t.0 t.1 ≡ true). absurd (both_ways (filled C ys t.0 t.1) t.3 (filled-holds C ys t.0 t.1 c))) (λ (c : C t.0 t.1 ≡ false). c) (cases_Bool (C t.0 t.1))),
      not-fill C ys t.0 t.1 t.3,
      spare-to n (filled C xs) t.0 t.1 t.4,
    )

pub without-spare-fill-minimal : WithoutSpareFillMinimal
without-spare-fill-minimal net xs l o none ys oy p = let t = less-fill-leaves-a-spare-pair net xs l o ys oy p in none t.0 t.1 t.2 t.4

pub spare-pairs-can-go : SparePairsCanGo
spare-pairs-can-go n H s p u v h e =
    let xs = p.0 in
    let o = p.1 in
    let l = s.below u v h in
    let f = spare-from n H u v s.below e in
    let t = removal H s.symmetric s.irreflexive u v h xs (closed-from H xs p.2) o.once (λ a b _ _ ne ua va ub vb. f a ua va b ne ub vb) (o.all u l.0) (o.all v l.1) in
    (t.0, record { once = t.2; all = λ a k. t.3 a (o.all a k); only = λ a j. o.only a (t.4 a j) }, closed-to (without H u v) t.0 t.1)

pub any-station-last : AnyStationLast
any-station-last n H s p r h =
    let o = p.1 in
    let t : EndsIn H r p.0 = ends-in H s.symmetric s.irreflexive r p.0 (closed-from H p.0 p.2) o.once (o.all r h) in
    (t.0, record { once = t.2; all = λ a k. t.3 a (o.all a k); only = λ a j. o.only a (t.4 a j) }, closed-to H t.0 t.1, t.5)

pub seats-without-new-fill : SeatsWithoutNewFill
seats-without-new-fill net xs l o r h =
    let n = net.size in
    let C = net.coupled in
    let s = lawful-simple net l in
    let t = any-station-last n (filled C xs) (filled-simple n C s xs o) (xs, o, closed-to (filled C xs) xs (filled-order-closed n C s xs o)) r h in
    (t.0, t.1, t.3, fill-sub C xs t.0 (filled-order-least n C s t.0 t.1 (filled C xs) (filled-holds C xs) (closed-from (filled C xs) t.0 t.2)))
