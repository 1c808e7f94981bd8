use Rattle.std.proofs.Common.{◌≡◌, ℕ, ◌+◌, [], ◌∷◌, sym, ◌∙◌, subst, arith}
use Rattle.network.proofs.Writes.{puts_none, puts-both, length-pair_bits, row-none, row-yes, row-no, row_room}
use Rattle.network.specs.Sheets.{row_to}
use Rattle.network.specs.Writing.{Puts, pair_bits}
use Rattle.network.proofs.sheets.writing.put_row.Goals.{then-coupled, else-coupled}
use Rattle.network.proofs.sheets.writing.put_row.Goals as goal

pub loop-b-init : goal.loop-b-init
loop-b-init g c =
    subst (Puts _ _) (sym (row-none c.args.counts.bits (g.N.Network.meaning c.args.network.now).coupled c.args.a)) (puts_none c.args.writer.now)

pub put_pair-requires : goal.put_pair-requires
put_pair-requires g c =
    let C = (g.N.Network.meaning c.args.network.now).coupled in
    let fits = row_room c.args.counts.bits C c.args.a c.loop-b.b (omega arith) (sym c.coupled.ensures ∙ c.if-coupled.true) in
    let one = length-pair_bits c.args.counts.bits ((c.args.a, c.loop-b.b) ∷ []) in
    record {
      fit = (omega arith, omega arith);
      room = (simp length-pair_bits (omega (arith, c.loop-b.invariant.place, c.loop-b.invariant.size)), omega (arith, c.loop-b.invariant.size));
    }

pub loop-b-preserved : goal.loop-b-preserved
loop-b-preserved g c =
    let C = (g.N.Network.meaning c.args.network.now).coupled in
    let w = c.args.counts.bits in
    let a = c.args.a in
    let b = c.loop-b.b in
    elim c.if-coupled.branch [
      | then-coupled v ↦
          subst (λ new. Puts c.args.writer.now new (pair_bits w (row_to C a (b + 1)))) (sym v.writer-is)
          (subst (Puts _ _) (sym (row-yes w C a b (sym c.coupled.ensures ∙ v.if-coupled.true)))
          (puts-both (pair_bits w (row_to C a b)) (pair_bits w ((a, b) ∷ [])) c.loop-b.invariant v.put_pair.ensures))
      | else-coupled v ↦
          subst (λ new. Puts c.args.writer.now new (pair_bits w (row_to C a (b + 1)))) (sym v.writer-is)
          (subst (Puts _ _) (sym (row-no w C a b (sym c.coupled.ensures ∙ v.if-coupled.false))) c.loop-b.invariant)
    ]

pub returns : goal.returns
returns g c =
    let C = (g.N.Network.meaning c.args.network.now).coupled in
    let e : c.loop-b.b ≡ c.args.a = omega arith in
    subst (λ (x : ℕ). Puts c.args.writer.now c.loop-b.writer (pair_bits c.args.counts.bits (row_to C c.args.a x))) e c.loop-b.invariant
