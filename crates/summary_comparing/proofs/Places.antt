-- Each step of a body has a place, at which the body does it.
use Rattle.std.proofs.Common.{◌≡◌, ◌⊎◌, ℕ, zero, suc, List, [], ◌∷◌, ◌++◌, map, Some, inl, inr, refl, sym, ap, ◌∙◌, subst}
use Rattle.std.specs.Prelude.{slice_get}
use Rattle.std.proofs.lemmas.Option.{same_Some}
use Rattle.twe_base.specs.declared.place.Place.{Place}
use Rattle.twe_base.proofs.Members.{IsIn, in-contains}
use Rattle.region_paths.specs.declared.elements.Elem.{Elem}
use Rattle.effect_sets.specs.declared.effects.Effect.{Effect}
use Rattle.effect_sets.specs.declared.effects.Summary.{Summary}
use Rattle.twe_program.specs.declared.program.Decl.{Decl}
use Rattle.twe_program.specs.Program.{Program}
use Rattle.effect_check.specs.declared.act.Act.{Act}
use Rattle.effect_check.specs.declared.act.ActKind.{ActKind}
use Rattle.effect_check.specs.declared.act.ActKind.TheVariants as acts
use Rattle.effect_check.specs.Acts.{acts_in_all, filled_summary}
use Rattle.effect_check.specs.Covered.{Does}
use Rattle.effect_infer.specs.declared.needs.need.Need.{Need}
use Rattle.effect_infer.specs.declared.needs.need.BodyStep.{BodyStep}
use Rattle.effect_infer.specs.declared.needs.need.BodyStep.TheVariants as steps
use Rattle.effect_infer.specs.needs.Steps.{steps_in_all}
use Rattle.effect_infer.specs.needs.Needs.{effect_of}
use Rattle.effect_infer.proofs.needs.Steps.{touched, called, seen, seen_of, shown, seen-statements}
use Rattle.summary_comparing.specs.Placed.{HasStepAt, step_place, step_places}

-- at this place an act is what the step says
abbrev pub IsActOf : Program → BodyStep → Place → ActKind → Type 0
IsActOf q (steps.Touch need) place kind = kind ≡ acts.Touch (effect_of need) place
IsActOf q (steps.Call method args) place kind = kind ≡ acts.Call (filled_summary (slice_get q.methods method) args) place

access-of : (q : Program) (effect : Effect) (place : Place) (s : BodyStep) → touched effect ≡ shown q s → IsActOf q s place (acts.Touch effect place)
access-of q effect place (steps.Touch need) e = let same : effect ≡ effect_of need = cc in ap (λ (x : Effect). acts.Touch x place) same
access-of q effect place (steps.Call method args) e = absurd (cc)

call-of : (q : Program) (effects : Summary) (place : Place) (s : BodyStep) → called effects ≡ shown q s → IsActOf q s place (acts.Call effects place)
call-of q effects place (steps.Touch need) e = absurd (cc)
call-of q effects place (steps.Call method args) e =
    let same : effects ≡ filled_summary (slice_get q.methods method) args = cc in ap (λ (x : Summary). acts.Call x place) same

-- the place of the step with this number among the places of the acts, and the act that has it
pub record StepPlace (q : Program) (as' : List Act) (k : ℕ) (s : BodyStep) : Type 0 where
  pub place : Place
  pub place_there : slice_get (step_places as') k ≡ Some place
  pub act : Act
  pub act_there : IsIn act as'
  pub is_act : IsActOf q s place act.kind

-- the same, if an act of this kind comes before them
record PlaceBy (q : Program) (kind : ActKind) (as' : List Act) (k : ℕ) (s : BodyStep) : Type 0 where
  pub place : Place
  pub place_there : slice_get (step_place kind ++ step_places as') k ≡ Some place
  pub is_act : IsActOf q s place kind ⊎ ((act : Act) × IsIn act as' × IsActOf q s place act.kind)

abbrev HavePlaces : Program → List Act → Type 0
HavePlaces q as' = (ss : List BodyStep) → seen as' ≡ map (shown q) ss → (k : ℕ) (s : BodyStep) → slice_get ss k ≡ Some s → StepPlace q as' k s

place-by : (q : Program) (kind : ActKind) (as' : List Act) → HavePlaces q as' → (ss : List BodyStep) → seen_of kind ++ seen as' ≡ map (shown q) ss
    → (k : ℕ) (s : BodyStep) → slice_get ss k ≡ Some s → PlaceBy q kind as' k s
place-by q (acts.Touch effect place) as' rest [] e k s there = absurd (cc)
place-by q (acts.Touch effect place) as' rest (t ∷ ss) e zero s there =
    let head : touched effect ≡ shown q t = cc in
    let same : t ≡ s = cc in
    record { place = place; place_there = refl; is_act = inl (access-of q effect place s (subst (λ u. touched effect ≡ shown q u) same head)) }
place-by q (acts.Touch effect place) as' rest (t ∷ ss) e (suc k) s there =
    let tail : seen as' ≡ map (shown q) ss = cc in
    let found = rest ss tail k s there in
    record { place = found.place; place_there = found.place_there; is_act = inr (found.act, found.act_there, found.is_act) }
place-by q (acts.Call effects place) as' rest [] e k s there = absurd (cc)
place-by q (acts.Call effects place) as' rest (t ∷ ss) e zero s there =
    let head : called effects ≡ shown q t = cc in
    let same : t ≡ s = cc in
    record { place = place; place_there = refl; is_act = inl (call-of q effects place s (subst (λ u. called effects ≡ shown q u) same head)) }
place-by q (acts.Call effects place) as' rest (t ∷ ss) e (suc k) s there =
    let tail : seen as' ≡ map (shown q) ss = cc in
    let found = rest ss tail k s there in
    record { place = found.place; place_there = found.place_there; is_act = inr (found.act, found.act_there, found.is_act) }
place-by q (acts.Make future spawned deterministic effects future_place place) as' rest ss e k s there =
    let found = rest ss e k s there in
    record { place = found.place; place_there = found.place_there; is_act = inr (found.act, found.act_there, found.is_act) }
place-by q (acts.Wait future join place) as' rest ss e k s there =
    let found = rest ss e k s there in
    record { place = found.place; place_there = found.place_there; is_act = inr (found.act, found.act_there, found.is_act) }

with-act : (q : Program) (a : Act) (as' : List Act) (k : ℕ) (s : BodyStep) → PlaceBy q a.kind as' k s → StepPlace q (a ∷ as') k s
with-act q a as' k s by = elim by.is_act [
  | inl here ↦ record { place = by.place; place_there = by.place_there; act = a; act_there = inl refl; is_act = here }
  | inr later ↦ record { place = by.place; place_there = by.place_there; act = later.0; act_there = inr later.1; is_act = later.2 }
]

pub step-place : (q : Program) (as' : List Act) → HavePlaces q as'
step-place q [] [] e k s there = absurd (cc)
step-place q [] (t ∷ ss) e k s there = absurd (cc)
step-place q (a ∷ as') ss e k s there = with-act q a as' k s (place-by q a.kind as' (step-place q as') ss e k s there)

-- of the body of a declaration
module _ (q : Program) (decl : Decl) where
  pub body-place : (k : ℕ) (s : BodyStep) → slice_get (steps_in_all q.cells decl.body.block) k ≡ Some s
      → StepPlace q (acts_in_all q decl.body.block) k s
  body-place k s there =
      step-place q (acts_in_all q decl.body.block) (steps_in_all q.cells decl.body.block) (seen-statements q decl.body.block) k s there

  -- its place is there, and so the body has the step at it
  pub step-at : (k : ℕ) (s : BodyStep) (place : Place) → slice_get (steps_in_all q.cells decl.body.block) k ≡ Some s
      → slice_get (step_places (acts_in_all q decl.body.block)) k ≡ Some place → HasStepAt q decl s place
  step-at k s place there here = record { number = k; step_there = there; place_there = here }

  -- and does it there
  done-at : (s : BodyStep) (place : Place) → HasStepAt q decl s place → (act : Act) × IsIn act (acts_in_all q decl.body.block) × IsActOf q s place act.kind
  done-at s place at =
      let found = body-place at.number s at.step_there in
      let same : found.place ≡ place = same_Some _ _ (sym found.place_there ∙ at.place_there) in
      (found.act, found.act_there, subst (λ (x : Place). IsActOf q s x found.act.kind) same found.is_act)

  pub accessed-at : (need : Need) (place : Place) → HasStepAt q decl (steps.Touch need) place → (point : ℕ) × Does q decl point (acts.Touch (effect_of need) place)
  accessed-at need place at =
      let found = done-at (steps.Touch need) place at in
      (found.0.point, subst (Does q decl found.0.point) found.2 (in-contains (acts_in_all q decl.body.block) found.0 found.1))

  pub called-at : (method : ℕ) (args : List Elem) (place : Place) → HasStepAt q decl (steps.Call method args) place
      → (point : ℕ) × Does q decl point (acts.Call (filled_summary (slice_get q.methods method) args) place)
  called-at method args place at =
      let found = done-at (steps.Call method args) place at in
      (found.0.point, subst (Does q decl found.0.point) found.2 (in-contains (acts_in_all q decl.body.block) found.0 found.1))
