use Rattle.std.proofs.Common.{◌≡◌, ℕ, ◌+◌, ◌-◌, ◌*◌, ◌/◌, ◌<◌, sym, ap, ◌∙◌, ⊎_elim, arith}
use Rattle.std.proofs.lemmas.Bool.{cases_lt, cases_eq}
use Rattle.network.specs.Parts.{pair_key}
use Rattle.network.proofs.Searches.{key-less-at, has_key, has-no-key}
use Rattle.network.proofs.sheets.SheetNetwork.has_pair.Goals as goal

pub returns-then-key-wanted : goal.returns-then-key-wanted
returns-then-key-wanted c =
    let s = c.args.self.now in
    let bs = s.bytes.now in
    let k = c.loop-low.low + (c.loop-low.high - c.loop-low.low) / 2 in
    sym (has_key bs s.counts.stations s.counts.couplings k c.args.larger c.args.smaller (omega arith) (omega arith)
    (ap (λ (x : ℕ). pair_key bs x k) (sym s.counts.wide) ∙ (sym c.key_at-key.ensures ∙ c.if-key-wanted.true)))

pub loop-low-preserved-then-key-wanted-2 : goal.loop-low-preserved-then-key-wanted-2
loop-low-preserved-then-key-wanted-2 c =
    let s = c.args.self.now in
    let bs = s.bytes.now in
    let mid = c.loop-low.low + (c.loop-low.high - c.loop-low.low) / 2 in
    let below : pair_key bs s.counts.bits mid < c.args.larger * 512 + c.args.smaller = omega (arith, c.key_at-key.ensures) in
    let hm : mid < s.counts.couplings = omega arith in (
      omega arith,
      omega arith,
      (λ k h. ⊎_elim
          (λ lt. omega (arith, below, key-less-at bs s.counts.stations s.counts.couplings s.counts.bits s.counts.wide s.stands k mid lt hm))
          (λ ge. let e : k ≡ mid = omega arith in omega (arith, below, ap (pair_key bs s.counts.bits) e))
          (cases_lt k mid)),
      c.loop-low.invariant.3,
    )

pub loop-low-preserved : goal.loop-low-preserved
loop-low-preserved c =
    let s = c.args.self.now in
    let bs = s.bytes.now in
    let mid = c.loop-low.low + (c.loop-low.high - c.loop-low.low) / 2 in
    let above : c.args.larger * 512 + c.args.smaller < pair_key bs s.counts.bits mid =
    ⊎_elim (λ same. absurd (c.if-key-wanted.false same)) (λ other. omega (arith, c.key_at-key.ensures)) (cases_eq c.key_at-key.result (c.args.larger * 512 + c.args.smaller)) in (
      omega arith,
      omega arith,
      c.loop-low.invariant.2,
      (λ k h hk. ⊎_elim
          (λ lt. omega (arith, above, key-less-at bs s.counts.stations s.counts.couplings s.counts.bits s.counts.wide s.stands mid k lt hk))
          (λ ge. let e : k ≡ mid = omega arith in omega (arith, above, ap (pair_key bs s.counts.bits) e))
          (cases_lt mid k)),
    )

pub returns : goal.returns
returns c =
    let s = c.args.self.now in
    let bs = s.bytes.now in
    sym (has-no-key bs s.counts.stations s.counts.couplings c.args.larger c.args.smaller (λ k h q.
    let is : pair_key bs s.counts.bits k ≡ c.args.larger * 512 + c.args.smaller = ap (λ (x : ℕ). pair_key bs x k) s.counts.wide ∙ q in
    ⊎_elim (λ lt. omega (arith, is, c.loop-low.invariant.2 k lt)) (λ ge. omega (arith, is, c.loop-low.invariant.3 k (omega arith) h)) (cases_lt k c.loop-low.low)))
