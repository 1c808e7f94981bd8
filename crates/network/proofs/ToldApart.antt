-- No two refusals tell the same number and place: from these the refusal comes back.
use Rattle.std.proofs.Common.{◌≡◌, cond, eqb, sym, refl, ap, ◌∙◌}
use Rattle.network.specs.declared.refusal.Refusal.{Refusal}
use Rattle.network.specs.declared.refusal.Refusal.TheVariants.{NotWhole, WrongKind, SizeOutOfRange, TooManyCouplings, NoPair, PairNotRising, NoOrderStation, NotEnded, StartsLength, NoStart, NoName, OneSided, OrderLength, NoStation, OutOfRange, TooShort, TableTooShort, NoPlace, UnusablePivot, SheetTooLong}
use Rattle.network.specs.Refusals.{Fault, told}

back : Fault → Refusal
back f =
    cond (eqb f.number 1) (NotWhole f.place) (
    cond (eqb f.number 2) WrongKind (
    cond (eqb f.number 3) SizeOutOfRange (
    cond (eqb f.number 4) TooManyCouplings (
    cond (eqb f.number 5) (NoPair f.place) (
    cond (eqb f.number 6) (PairNotRising f.place) (
    cond (eqb f.number 7) (NoOrderStation f.place) (
    cond (eqb f.number 8) (NotEnded f.place) (
    cond (eqb f.number 9) (StartsLength f.place) (
    cond (eqb f.number 10) (NoStart f.place) (
    cond (eqb f.number 11) (NoName f.place) (
    cond (eqb f.number 12) (OneSided f.place) (
    cond (eqb f.number 13) (OrderLength f.place) (
    cond (eqb f.number 14) (NoStation f.place) (
    cond (eqb f.number 15) (OutOfRange f.place) (
    cond (eqb f.number 16) (TooShort f.place) (
    cond (eqb f.number 17) (TableTooShort f.place) (
    cond (eqb f.number 18) (NoPlace f.place) (
    cond (eqb f.number 19) (UnusablePivot f.place) (
    SheetTooLong)))))))))))))))))))

back-told : (e : Refusal) → back (told e) ≡ e
unfolding back
back-told (NotWhole p) = refl
back-told WrongKind = refl
back-told SizeOutOfRange = refl
back-told TooManyCouplings = refl
back-told (NoPair p) = refl
back-told (PairNotRising p) = refl
back-told (NoOrderStation p) = refl
back-told (NotEnded p) = refl
back-told (StartsLength p) = refl
back-told (NoStart p) = refl
back-told (NoName p) = refl
back-told (OneSided p) = refl
back-told (OrderLength p) = refl
back-told (NoStation p) = refl
back-told (OutOfRange p) = refl
back-told (TooShort p) = refl
back-told (TableTooShort p) = refl
back-told (NoPlace p) = refl
back-told (UnusablePivot p) = refl
back-told SheetTooLong = refl

pub told-apart : (e f : Refusal) → told e ≡ told f → e ≡ f
told-apart e f h = sym (back-told e) ∙ ap back h ∙ back-told f
