-- What a reader took, and what that says of the coupling or the station that it read.
use Rattle.std.proofs.Common.{◌≡◌, ℕ, ◌+◌, Bool, true, false, cond, List, Ok, Err, sym, refl, ap, ap₂, ◌∙◌, arith}
use Rattle.std.proofs.lemmas.Bool.{cond-true}
use Rattle.network.proofs.Places.{place-next}
use Rattle.network.specs.Decode.{place_for, value_at}
use Rattle.network.specs.Fields.{field, is_in, field_in, place_after}
use Rattle.network.specs.Refusals.{Fault, at}

pub took : (bs : List ℕ) (p w v : ℕ) → Ok v ≡ field_in bs p w → (is_in bs p w ≡ true) × (v ≡ field bs p w)
took bs p w v = way (is_in bs p w)
  where
    way : (b : Bool) → Ok v ≡ cond b (Ok (field bs p w)) (Err (at 1 p)) → (b ≡ true) × (v ≡ field bs p w)
    way true h = (refl, cc)
    way false h = absurd (let z : ◌≡◌ {A = ℕ} 0 1 = cc in omega arith)

pub cut : (bs : List ℕ) (p w : ℕ) (f : Fault) → Err f ≡ field_in bs p w → (is_in bs p w ≡ false) × (f ≡ at 1 p)
cut bs p w f = way (is_in bs p w)
  where
    way : (b : Bool) → Err f ≡ cond b (Ok (field bs p w)) (Err (at 1 p)) → (b ≡ false) × (f ≡ at 1 p)
    way true h = absurd (let z : ◌≡◌ {A = ℕ} 0 1 = cc in omega arith)
    way false h = (refl, cc)

-- where the next field stands, after one was taken
pub then_at : (bs : List ℕ) (p w i q : ℕ) → p ≡ place_for w i → is_in bs p w ≡ true → q ≡ place_after bs p w → q ≡ place_for w (i + 1)
then_at bs p w i q e h is = is ∙ cond-true _ _ _ h ∙ ap (λ (x : ℕ). x + w) e ∙ sym (place-next w i)

-- a station that was taken
pub station-took : (bs cs : List ℕ) (p w i v : ℕ) → cs ≡ bs → p ≡ place_for w i → Ok v ≡ field_in cs p w → (is_in bs (place_for w i) w ≡ true) × (v ≡ value_at bs w i)
unfolding value_at
station-took bs cs p w i v same e h =
    let got = took cs p w v h in (
      ap (λ l. is_in l (place_for w i) w) (sym same) ∙ ap (λ (x : ℕ). is_in cs x w) (sym e) ∙ got.0,
      got.1 ∙ ap (λ (x : ℕ). field cs x w) e ∙ ap (λ l. field l (place_for w i) w) same,
    )

pub station-cut : (bs cs : List ℕ) (p w i : ℕ) (f : Fault) → cs ≡ bs → p ≡ place_for w i → Err f ≡ field_in cs p w → (is_in bs (place_for w i) w ≡ false) × (f ≡ at 1 (place_for w i))
station-cut bs cs p w i f same e h =
    let got = cut cs p w f h in (
      ap (λ l. is_in l (place_for w i) w) (sym same) ∙ ap (λ (x : ℕ). is_in cs x w) (sym e) ∙ got.0,
      got.1 ∙ ap (at 1) e,
    )

-- ---- two fields, one after the other: the first is taken at p, the second looked for at q

second_at : (bs : List ℕ) (p q w first : ℕ) → Ok first ≡ field_in bs p w → q ≡ place_after bs p w → q ≡ p + w
second_at bs p q w first h is = is ∙ cond-true _ _ _ (took bs p w first h).0

pub second-cut : (bs cs : List ℕ) (p q w first : ℕ) (f : Fault) → Ok first ≡ field_in bs p w → q ≡ place_after bs p w → cs ≡ bs → Err f ≡ field_in cs q w
    → (is_in bs p w ≡ true) × (is_in bs (p + w) w ≡ false) × (f ≡ at 1 (p + w))
second-cut bs cs p q w first f h is same second =
    let e : q ≡ p + w = second_at bs p q w first h is in
    let y = cut bs (p + w) w f (second ∙ ap₂ (λ l (x : ℕ). field_in l x w) same e) in
    ((took bs p w first h).0, y.0, y.1)

pub both-took : (bs cs : List ℕ) (p q w first last : ℕ) → Ok first ≡ field_in bs p w → q ≡ place_after bs p w → cs ≡ bs → Ok last ≡ field_in cs q w
    → (is_in bs p w ≡ true) × (is_in bs (p + w) w ≡ true) × (first ≡ field bs p w) × (last ≡ field bs (p + w) w)
both-took bs cs p q w first last h is same second =
    let e : q ≡ p + w = second_at bs p q w first h is in
    let x = took bs p w first h in
    let y = took bs (p + w) w last (second ∙ ap₂ (λ l (x : ℕ). field_in l x w) same e) in
    (x.0, y.0, x.1, y.1)

-- where the reader stands after both
pub both-passed : (bs cs : List ℕ) (p q r w larger smaller : ℕ) → Ok larger ≡ field_in bs p w → q ≡ place_after bs p w → Ok smaller ≡ field_in cs q w → r ≡ place_after cs q w
    → r ≡ p + w + w
both-passed bs cs p q r w larger smaller first qis second ris =
    ris ∙ cond-true _ _ _ (took cs q w smaller second).0 ∙ ap (λ (x : ℕ). x + w) (qis ∙ cond-true _ _ _ (took bs p w larger first).0)
