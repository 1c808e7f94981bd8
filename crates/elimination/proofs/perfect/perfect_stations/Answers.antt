use Rattle.std.proofs.Common.{◌≡◌, ℕ, ◌+◌, ◌-◌, ◌<◌, ◌≤◌, true, false, List, [], ◌∷◌, ◌++◌, length, replicate, take, drop, set, sym, refl, ap, ◌∙◌, arith, rules}
use lib.ListN.{get_or-replicate}
use Rattle.std.proofs.lemmas.List.{length-append, length-drop, length-replicate, take_more_set, take-append-le}
use Rattle.elimination.specs.View.{graph}
use Rattle.elimination.proofs.Peel.{peel-start, peel-some, peel-step, peel-end}
use Rattle.elimination.proofs.Relations.{closed-to, spare-from, spare-to}
use Rattle.elimination.proofs.Rows.{rows-below}
use Rattle.elimination.proofs.perfect.perfect_stations.Goals as goal

pub loop-place-init : goal.loop-place-init
loop-place-init c =
    (c.requires.perfect.0, peel-start c.args.n c.args.last (graph c.args.pairs.now) (replicate 512 true) _ c.requires.few c.requires.known c.requires.simple c.requires.perfect (λ a h. get_or-replicate 512 a true false h) (length-replicate 512 true) refl)

pub simplicial_station-v-requires : goal.simplicial_station-v-requires
simplicial_station-v-requires c =
    let t = peel-some _ _ _ _ _ _ _ _ c.requires.simple c.loop-place.invariant.1 (search rules) in
    record { few = c.requires.few; one = (t.0, t.1, t.2, spare-to 512 (graph c.loop-place.pairs) t.0 t.0 t.3) }

pub loop-place-preserved : goal.loop-place-preserved
loop-place-preserved c =
    let p = c.loop-place.invariant.1 in
    let v = c.simplicial_station-v.result in
    let room : c.loop-place.place-index < length c.loop-place.before_last = search rules in
    peel-step _ _ _ _ _ _ _ _ c.requires.simple p v _ _ _ c.simplicial_station-v.ensures.below c.requires.few c.simplicial_station-v.ensures.left
    (spare-from 512 (graph c.loop-place.pairs) v v (rows-below c.loop-place.pairs.words) c.simplicial_station-v.ensures.simplicial)
    c.isolate.ensures refl (take_more_set c.loop-place.before_last c.loop-place.place-index v room)

-- the last station is written behind the others
ended : (front rest : List ℕ) (n k last : ℕ) → k + 1 ≡ n → k ≤ length front → k < length (front ++ rest)
    → take n (set (front ++ rest) (n - 1) last) ≡ take k front ++ last ∷ []
ended front rest n k last e le room =
    let i : n - 1 ≡ k = omega arith in
    ap (λ (m : ℕ). take m (set (front ++ rest) (n - 1) last)) (sym e)
    ∙ ap (λ (m : ℕ). take (k + 1) (set (front ++ rest) m last)) i
    ∙ take_more_set (front ++ rest) k last room
    ∙ ap (λ l. l ++ last ∷ []) (take-append-le k front rest le)

pub returns : goal.returns
returns c =
    let p = c.loop-place.invariant.1 in
    let k = c.loop-place.place-index in
    let n = c.args.n in
    let front = c.loop-place.before_last in
    let long : length front ≡ n - 1 = search rules in
    let e : k + 1 ≡ n = search rules in
    let zeros : List ℕ = replicate 512 0 in
    let rest : List ℕ = drop (n - 1) zeros in
    let room : k < length (front ++ rest) = omega (arith, length-append front rest, length-drop (n - 1) zeros, length-replicate {A = ℕ} 512 0, long, e, c.requires.few) in
    let t = peel-end _ _ _ _ _ _ _ _ c.requires.simple p _ e (ended front rest n k c.args.last e (omega (arith, long)) room) in
    record { order = t.0; closed = closed-to (graph c.args.pairs.now) _ t.1; ends = t.2 }
