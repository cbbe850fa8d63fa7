-- What a way to a point is, on which a future is out or is not.
use Rattle.std.specs.Prelude.{◌≡◌, ◌≤◌, ℕ, min, Bool, ◌||◌, if◌then◌else◌, List, [], ◌∷◌, ◌++◌, length, Option, None, Some, option_to_list}
use Rattle.twe_base.specs.declared.place.Place.{Place}
use Rattle.twe_program.specs.declared.program.Body.{Body}
use Rattle.twe_program.specs.Statement.{Statement, SetCell, SetArray, SetGrid, While, Print, Call, Make, Wait}
use Rattle.cover_flow.specs.ControlPath.{Path, ControlPath}
use Rattle.cover_flow.specs.Out.{puts_out, takes_in, out_after}
use Rattle.refusal_causes.specs.declared.way.Begins.{Begins}
use Rattle.refusal_causes.specs.declared.way.Begins.TheVariants.{Start, Spawn, Join}
use Rattle.refusal_causes.specs.declared.way.ControlWay.{ControlWay}
use Rattle.refusal_causes.specs.Places.{kept, max_counted}
use Rattle.refusal_causes.specs.Trail.{ControlTrail}

-- the place at which a statement shows, if it has one; the making of a task shows at the name of the future
abbrev pub shown_at : Statement → Option Place
shown_at (SetCell point cell value place) = Some place
shown_at (SetArray point array index value place) = Some place
shown_at (SetGrid point array row column value place) = Some place
shown_at (While point condition body place) = Some place
shown_at (Print point value place) = Some place
shown_at (Call point method args place) = Some place
shown_at (Make point future task args spawned future_place place) = Some future_place
shown_at (Wait point future join into place) = Some place
shown_at s = None

-- the statement spawns into the future, or joins it
abbrev pub settles : ℕ → Statement → Bool
settles f s = puts_out f s || takes_in f s

-- where the way along a trail begins: at the latest spawn or join of the future or, if there is none, at the start
abbrev pub begins_of : ℕ → Path → Begins
begins_of f [] = Start
begins_of f (s ∷ earlier) = if puts_out f s then Spawn else (if takes_in f s then Join else begins_of f earlier)

-- the places of a trail from the latest spawn or join of the future on, the latest first
abbrev pub places_since : ℕ → Path → List Place
places_since f [] = []
places_since f (s ∷ earlier) = option_to_list (shown_at s) ++ (if settles f s then [] else places_since f earlier)

-- the way along a trail
abbrev pub way_along : ℕ → Path → ControlWay
way_along f trail = record { begins = begins_of f trail; places = kept (places_since f trail) }

-- The way is that along the trail of a control path to the point, after which the future is out, or is not. Of all such ways none has
-- fewer places: so it goes round no loop without need.
pub record IsWay (body : Body) (point f : ℕ) (out : Bool) (way : ControlWay) : Type 0 where
  pub trail : Path
  pub comes : ControlTrail body point trail
  pub state : out_after f trail ≡ out
  pub shows : way ≡ way_along f trail
  pub shortest : (other : Path) → ControlTrail body point other → out_after f other ≡ out
      → min (length (places_since f trail)) max_counted ≤ length (places_since f other)

-- after no control path to the point the future is out, or is not
abbrev pub IsOnNone : Body → ℕ → ℕ → Bool → Type 0
IsOnNone body point f out = (path : Path) → ControlPath body point path → ¬ (out_after f path ≡ out)
