-- What a refusal tells: its number and its place. Every contract that refuses speaks of these.
use Rattle.std.specs.Prelude.{◌≡◌, ℕ, zero, suc, List, ◌++◌, codes, decimal, Some, None, Ok, Err, Option, Result}
use Rattle.network.specs.declared.refusal.Refusal.{Refusal}
use Rattle.network.specs.declared.refusal.Refusal.TheVariants.{NotWhole, WrongKind, SizeOutOfRange, TooManyCouplings, NoPair, PairNotRising, NoOrderStation, NotEnded, StartsLength, NoStart, NoName, OneSided, OrderLength, NoStation, OutOfRange, TooShort, TableTooShort, NoPlace, UnusablePivot, SheetTooLong}

-- the number says what was wrong, the place where
pub record Fault : Type 0 where
  pub number : ℕ
  pub place : ℕ

abbrev pub at : ℕ → ℕ → Fault
at n p = record { number = n; place = p }

-- the number and the place of every refusal
abbrev pub told : Refusal → Fault
told (NotWhole p) = at 1 p
told WrongKind = at 2 0
told SizeOutOfRange = at 3 5
told TooManyCouplings = at 4 15
told (NoPair p) = at 5 p
told (PairNotRising p) = at 6 p
told (NoOrderStation p) = at 7 p
told (NotEnded p) = at 8 p
told (StartsLength p) = at 9 p
told (NoStart p) = at 10 p
told (NoName p) = at 11 p
told (OneSided p) = at 12 p
told (OrderLength p) = at 13 p
told (NoStation p) = at 14 p
told (OutOfRange p) = at 15 p
told (TooShort p) = at 16 p
told (TableTooShort p) = at 17 p
told (NoPlace p) = at 18 p
told (UnusablePivot p) = at 19 p
told SheetTooLong = at 20 0

-- a refusal as it is printed
abbrev pub fault_text : Fault → List ℕ
fault_text f = codes "refused " ++ decimal f.number ++ codes " at " ++ decimal f.place

-- no two refusals tell the same, so number and place say which one it is
abbrev pub ToldApart : Type 0
ToldApart = (e f : Refusal) → told e ≡ told f → e ≡ f

-- what a call answered, by what its refusal tells
abbrev pub outcome : {X : Type 0} → Result X Refusal → Result X Fault
outcome (Ok x) = Ok x
outcome (Err e) = Err (told e)

-- what a call refused, by what its refusal tells
abbrev pub fault_in : {X : Type 0} → Result X Refusal → Option Fault
fault_in (Ok x) = None
fault_in (Err e) = Some (told e)

-- what a check found, by what its refusal tells
abbrev pub finding : Option Refusal → Option Fault
finding None = None
finding (Some e) = Some (told e)

abbrev pub refuse : ℕ → ℕ → Option Fault
refuse n p = Some (at n p)

-- the first of two findings
abbrev pub or_else : Option Fault → Option Fault → Option Fault
or_else (Some f) later = Some f
or_else None later = later

-- the first fault among those found at 0, 1, .. up to, without, k
unfoldable pub first_fault : (ℕ → Option Fault) → ℕ → Option Fault
first_fault found zero = None
first_fault found (suc k) = or_else (first_fault found k) (found k)

-- an answer, unless a fault was found
abbrev pub unless : {X : Type 0} → Option Fault → X → Result X Fault
unless (Some f) x = Err f
unless None x = Ok x
