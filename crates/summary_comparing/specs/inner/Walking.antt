-- The places on the way back from an access.
use Rattle.std.specs.Prelude.{ℕ, List, Option, None, Some, slice_get}
use Rattle.twe_base.specs.declared.place.Place.{Place}
use Rattle.summary_comparing.specs.declared.bodies.BodySteps.{BodySteps}
use Rattle.summary_comparing.specs.declared.states.SearchState.{SearchState}

-- the place of a step of a body, if it is there
abbrev pub place_in_body : Option BodySteps → ℕ → Option Place
place_in_body None step = None
place_in_body (Some body) step = slice_get body.places step

-- the place of a step of the state's method
abbrev pub place_of_step : List BodySteps → Option SearchState → ℕ → Option Place
place_of_step bodies None step = None
place_of_step bodies (Some state) step = place_in_body (slice_get bodies state.method) step
