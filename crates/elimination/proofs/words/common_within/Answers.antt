use Rattle.std.proofs.Common.{refl, rules, tests}
use Rattle.std.proofs.lemmas.Iterator.{YieldsList-from_range, cases_from_all}
use Rattle.elimination.specs.Words.{WordWithin}
use Rattle.elimination.proofs.RowTests.{common-words}
use Rattle.elimination.proofs.words.common_within.Goals as goal

pub returns : goal.returns
returns c =
    let within = WordWithin c.args.words.now c.args.a c.args.b c.args.c in
    common-words c.args.words.now c.args.a c.args.b c.args.c c.requires.one c.requires.two c.requires.third c.all.result
    (cases_from_all _ _ c.all.result within (λ k. within k → ⊥) c.all.ensures.ran (YieldsList-from_range 0 8 8 (cc) refl) (λ x q call. search (rules, tests)) (λ x q call. search (rules, tests)))
