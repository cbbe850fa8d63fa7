-- The accesses and the calls of a body with their places in the text.
use Rattle.std.specs.Prelude.{◌≡◌, ℕ, List, [], ◌++◌, ◌∷◌, map, Some, slice_get}
use Rattle.twe_base.specs.declared.place.Place.{Place}
use Rattle.twe_program.specs.declared.program.Decl.{Decl}
use Rattle.twe_program.specs.Program.{Program}
use Rattle.effect_check.specs.declared.act.Act.{Act}
use Rattle.effect_check.specs.declared.act.ActKind.{ActKind}
use Rattle.effect_check.specs.declared.act.ActKind.TheVariants.{Touch, Call, Make, Wait}
use Rattle.effect_check.specs.Acts.{acts_in_all}
use Rattle.effect_infer.specs.declared.needs.need.BodyStep.{BodyStep}
use Rattle.effect_infer.specs.needs.Steps.{steps_in_all}
use Rattle.summary_comparing.specs.declared.bodies.BodySteps.{BodySteps}

-- the place of an access or of a call; what is done to tasks has none here
abbrev pub step_place : ActKind → List Place
step_place (Touch effect place) = place ∷ []
step_place (Call effects place) = place ∷ []
step_place (Make future spawned deterministic effects future_place place) = []
step_place (Wait future join place) = []

-- the places of the accesses and the calls among the acts, in their order
abbrev pub step_places : List Act → List Place
step_places [] = []
step_places (act ∷ others) = step_place act.kind ++ step_places others

-- The body of the declaration has this step at this place: both have one number, the step among the accesses and calls of the
-- body, and the place among their places.
pub record HasStepAt (p : Program) (decl : Decl) (step : BodyStep) (place : Place) : Type 0 where
  pub number : ℕ
  pub step_there : slice_get (steps_in_all p.cells decl.body.block) number ≡ Some step
  pub place_there : slice_get (step_places (acts_in_all p decl.body.block)) number ≡ Some place

-- what a declaration accesses and calls
abbrev pub body_steps : Program → Decl → BodySteps
body_steps p decl = record {
  params = decl.params;
  steps = steps_in_all p.cells decl.body.block;
  places = step_places (acts_in_all p decl.body.block);
}

-- what the methods of the program access and call
abbrev pub all_bodies : Program → List BodySteps
all_bodies p = map (body_steps p) p.methods
